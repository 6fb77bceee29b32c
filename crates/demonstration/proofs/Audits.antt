-- What the auditor's last round says of its audit.
use Rattle.std.proofs.Common.{ℕ, ◌<◌, List, Result, Ok, Err, length, map, All}
use Rattle.std.specs.Prelude.{MatchResult, OnOk}
use Rattle.txn.specs.declared.refusals.Refusal.{Refusal}
use Rattle.fragment_intake.specs.declared.rules.Parcel.{Parcel}
use Rattle.report_queue.specs.declared.entries.Entry.{Entry}
use Rattle.live_audit.specs.Live.{Live}
use Rattle.live_audit.specs.Running.{HasEnded, IsLastCount, IsLastSkipped}
use Rattle.live_audit.specs.Truth.{IsTrueEntry, accepted_history}
use Rattle.demonstration.specs.Runs.{demo_search, HasAudited}

pub has_audited : (last : Result (Unit {0}) Refusal) (taken : List Parcel) (sent : List Entry) → Live 64 4 4096 demo_search taken sent → ((collector : ℕ) → collector < 4 → HasEnded collector taken) → All (IsTrueEntry (accepted_history 4 taken sent)) sent
    → MatchResult last (λ _. IsLastCount (map length (accepted_history 4 taken sent)) sent) (λ refusal. IsLastSkipped refusal sent) → OnOk last (HasAudited taken sent)
has_audited (Ok done) taken sent live ends true_reports counted = record { live = live; ends = ends; reports = true_reports; last = counted }
has_audited (Err refusal) taken sent live ends true_reports skipped = tt
