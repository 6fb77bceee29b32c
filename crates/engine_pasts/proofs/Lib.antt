mod Reports
mod Steps
