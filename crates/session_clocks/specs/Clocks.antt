-- For private clauses: what the rows of numbers say.
use Rattle.std.specs.Prelude.{◌≡◌, ◌⊎◌, ◌↔◌, ℕ, ◌+◌, ◌-◌, ◌*◌, ◌^◌, ◌<◌, ◌≤◌, List, Vec, All, slice_index, length}
use Rattle.std.specs.declared.alloc.Global.{Global}
use Rattle.txn.specs.declared.transactions.TxnId.{TxnId}
use Rattle.txn.specs.declared.choices.Arc.{Arc}
use Rattle.txn.specs.Arcs.{start_of, end_of}
use Rattle.session_clocks.specs.Reach.{IsThere, Reaches}
use Rattle.session_clocks.specs.Rows.{line_at, clock_of}

-- a number that is the first one reached of a session: one that is there, or none, or in its own session the one behind it
pub record IsFirst (gone received : List ℕ) (id : TxnId) (session first : ℕ) : Type 0 where
  pub stays : slice_index gone session ≤ first
  pub kind : (first < slice_index received session) ⊎ (first ≡ 2 ^ 64 - 1) ⊎ (session ≡ id.session)

-- of each transaction that is there, the first ones of each session that it reaches
pub record AreFirsts (gone received : List ℕ) (R : TxnId → TxnId → Type 0) (first : TxnId → ℕ → ℕ) : Type 0 where
  pub exact : (a b : TxnId) → IsThere gone received a → IsThere gone received b → R a b ↔ (first a b.session ≤ b.number)
  pub few : (a : TxnId) (session : ℕ) → IsThere gone received a → session < length gone → IsFirst gone received a session (first a session)
  pub own : (a : TxnId) → IsThere gone received a → first a a.session ≤ a.number + 1

-- of each transaction that is there, how many of each session reach it
pub record AreCounts (gone received : List ℕ) (R : TxnId → TxnId → Type 0) (count : TxnId → ℕ → ℕ) : Type 0 where
  pub exact : (a b : TxnId) → IsThere gone received a → IsThere gone received b → R b a ↔ (b.number < count a b.session)
  pub few : (a : TxnId) (session : ℕ) → IsThere gone received a → session < length gone → count a session ≤ slice_index received session

-- for each session as many rows as transactions that are there, each with a number for each session
pub record AreLines (gone received : List ℕ) (lines : List (Vec ℕ Global)) : Type 0 where
  pub sessions : length lines ≡ length gone
  pub rows : (session : ℕ) → session < length gone → length (line_at lines session) ≡ (slice_index received session - slice_index gone session) * length gone

-- what a graph keeps of itself
pub record IsKept (gone received : List ℕ) (arcs : List Arc) (first count : List (Vec ℕ Global)) : Type 0 where
  pub few : length gone ≤ 256
  pub sessions : length received ≡ length gone
  pub order : (session : ℕ) → slice_index gone session ≤ slice_index received session
  pub bound : (session : ℕ) → slice_index received session < 2 ^ 64
  pub starts : All (λ arc. IsThere gone received (start_of arc)) arcs
  pub ends : All (λ arc. IsThere gone received (end_of arc)) arcs
  pub first_lines : AreLines gone received first
  pub count_lines : AreLines gone received count
  pub firsts : AreFirsts gone received (Reaches gone received arcs) (clock_of gone first)
  pub counts : AreCounts gone received (Reaches gone received arcs) (clock_of gone count)
