mod Idling
mod WellFormedEffects
