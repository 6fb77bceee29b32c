-- For private clauses: the nodes of a graph in a slab, each under its key.
use Rattle.std.specs.Prelude.{◌≡◌, ◌≢◌, ℕ, ◌+◌, ◌-◌, ◌<◌, List, [], ◌∷◌, ◌++◌, Vec, Option, Some, None, if◌then◌else◌, slice_index, slice_index_or, length}
use Rattle.std.specs.declared.alloc.Global.{Global}
use Rattle.txn.specs.declared.transactions.TxnId.{TxnId}
use Rattle.session_clocks.specs.declared.nodes.Node.{Node}
use Rattle.session_clocks.specs.Drops.{id_stays}
use Rattle.session_clocks.specs.Reach.{IsThere}
use Rattle.session_clocks.specs.Rows.{line_at, IsOneLine}

-- whose node a slot has, if it has one
abbrev pub id_in : Option Node → Option TxnId
id_in None = None
id_in (Some node) = Some node.id

-- whose node stands under the key
abbrev pub id_at : List (Option Node) → ℕ → Option TxnId
id_at slots key = id_in (slice_index_or slots key None)

-- the key of a transaction, where each session's keys stand in a line
abbrev pub key_of : List ℕ → List (Vec ℕ Global) → TxnId → ℕ
key_of gone keys id = slice_index (line_at keys id.session) (id.number - slice_index gone id.session)

-- each transaction that is there has a node under its key, and there is no other node
pub record AreNodes (gone received : List ℕ) (slots : List (Option Node)) (keys : List (Vec ℕ Global)) : Type 0 where
  pub sessions : length keys ≡ length gone
  pub rows : (session : ℕ) → session < length gone → length (line_at keys session) ≡ slice_index received session - slice_index gone session
  pub there : (id : TxnId) → IsThere gone received id → id_at slots (key_of gone keys id) ≡ Some id
  pub only : (key : ℕ) (id : TxnId) → id_at slots key ≡ Some id → IsThere gone received id × (key ≡ key_of gone keys id)

-- the same nodes stand under the same keys
abbrev pub AreSameNodes : List (Option Node) → List (Option Node) → Type 0
AreSameNodes old new = (key : ℕ) → id_at new key ≡ id_at old key

-- one key has this now, and every other key what it had
pub record IsChangedAt (old new : List (Option Node)) (key : ℕ) (now : Option TxnId) : Type 0 where
  pub changed : id_at new key ≡ now
  pub others : (other : ℕ) → other ≢ key → id_at new other ≡ id_at old other

-- the session has one key more at its end, and no other line changed
pub record HasKeyMore (old new : List (Vec ℕ Global)) (session key : ℕ) : Type 0 where
  pub line : line_at new session ≡ line_at old session ++ key ∷ []
  pub others : IsOneLine old new session

-- a node more stands under a key that was vacant, the last one of its session
pub record HasNodeMore (old new : List (Option Node)) (keys now : List (Vec ℕ Global)) (id : TxnId) : Type 0 where
  pub key : ℕ
  pub vacant : id_at old key ≡ None
  pub put : IsChangedAt old new key (Some id)
  pub pushed : HasKeyMore keys now id.session key

-- the node under the last key of the session is taken out
pub record HasNodeLess (old new : List (Option Node)) (keys now : List (Vec ℕ Global)) (session : ℕ) : Type 0 where
  pub key : ℕ
  pub out : IsChangedAt old new key None
  pub popped : HasKeyMore now keys session key

-- a line with no key stands behind the others
pub record HasLineMore (old new : List (Vec ℕ Global)) : Type 0 where
  pub sessions : length new ≡ length old + 1
  pub each : (line : ℕ) → line < length old → line_at new line ≡ line_at old line
  pub last : line_at new (length old) ≡ []

-- what is left of a slot where the first ones of each session go, up to these numbers
abbrev pub left_in : List ℕ → Option TxnId → Option TxnId
left_in gone None = None
left_in gone (Some id) = if id_stays gone id then Some id else None
