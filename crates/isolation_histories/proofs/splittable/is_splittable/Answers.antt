use Rattle.isolation_histories.proofs.splittable.is_splittable.Goals as goal

pub returns : goal.returns
returns c = λ sessions formed. (
  λ yes. record { well_formed = formed; numbers = (c.has_room_to_split.ensures.0 yes).numbers; each = (c.has_room_to_split.ensures.0 yes).each },
  λ h. c.has_room_to_split.ensures.1 (record { numbers = h.numbers; each = h.each }),
)
