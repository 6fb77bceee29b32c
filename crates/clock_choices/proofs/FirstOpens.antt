-- The first open choice of a graph is that of what is known; and what is passed stays passed.
use Rattle.std.proofs.Common.{◌↔◌, ℕ, List, arith}
use Rattle.txn.specs.declared.transactions.TxnId.{TxnId}
use Rattle.txn.specs.declared.choices.Choice.{Choice}
use Rattle.order_check.specs.declared.remainder.Parts.{Parts}
use Rattle.order_check.specs.Cycles.{Sides}
use Rattle.order_check.specs.Known.{IsOpen, Known}
use Rattle.order_check.specs.Search.{IsFirstOpen}
use Rattle.clock_choices.specs.Opens.{ArePassed, IsFirstIn, IsOpenIn}

-- what more is reached decides only more
pub open_less : (parts : Parts) (R S : TxnId → TxnId → Type 0) → ((a b : TxnId) → R a b → S a b) → (choice : Choice) → IsOpenIn parts S choice → IsOpenIn parts R choice
open_less parts R S more choice is = record {
  choice_of = is.choice_of;
  undecided = record {
    writer_other = λ reached. is.undecided.writer_other (more choice.writer choice.other reached);
    other_reader = λ reached. is.undecided.other_reader (more choice.other choice.reader reached);
    other_writer = λ reached. is.undecided.other_writer (more choice.other choice.writer reached);
    reader_other = λ reached. is.undecided.reader_other (more choice.reader choice.other reached);
  };
}

pub passed_on : (parts : Parts) (R S : TxnId → TxnId → Type 0) (ids : List TxnId) (n : ℕ) → ((a b : TxnId) → R a b → S a b) → ArePassed parts R ids n → ArePassed parts S ids n
passed_on parts R S ids n more passed choice is among = passed choice (open_less parts R S more choice is) among

pub none_passed : (parts : Parts) (R : TxnId → TxnId → Type 0) (ids : List TxnId) → ArePassed parts R ids 0
none_passed parts R ids choice is among = absurd (let there = among.1 in let below = there.1 in omega (arith, below))

-- where what is reached is what is known
module _ (parts : Parts) (taken : Sides) (R : TxnId → TxnId → Type 0) (exact : (a b : TxnId) → R a b ↔ Known parts taken a b) where
  pub open_of_known : (choice : Choice) → IsOpen parts taken choice → IsOpenIn parts R choice
  open_of_known choice is = record {
    choice_of = is.choice_of;
    undecided = record {
      writer_other = λ reached. is.writer_other ((exact choice.writer choice.other).0 reached);
      other_reader = λ reached. is.other_reader ((exact choice.other choice.reader).0 reached);
      other_writer = λ reached. is.other_writer ((exact choice.other choice.writer).0 reached);
      reader_other = λ reached. is.reader_other ((exact choice.reader choice.other).0 reached);
    };
  }

  pub known_of_open : (choice : Choice) → IsOpenIn parts R choice → IsOpen parts taken choice
  known_of_open choice is = record {
    choice_of = is.choice_of;
    writer_other = λ known. is.undecided.writer_other ((exact choice.writer choice.other).1 known);
    other_reader = λ known. is.undecided.other_reader ((exact choice.other choice.reader).1 known);
    other_writer = λ known. is.undecided.other_writer ((exact choice.other choice.writer).1 known);
    reader_other = λ known. is.undecided.reader_other ((exact choice.reader choice.other).1 known);
  }

  pub first_known : (choice : Choice) → IsFirstIn parts R choice → IsFirstOpen parts taken choice
  first_known choice is = record {
    is_open = known_of_open choice is.is_open;
    first = λ other open_other apart. is.first other (open_of_known other open_other) tt apart;
  }

  pub none_known : ((choice : Choice) → ¬ IsOpenIn parts R choice) → (choice : Choice) → ¬ IsOpen parts taken choice
  none_known none choice is = none choice (open_of_known choice is)
