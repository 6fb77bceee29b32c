use Rattle.std.proofs.Common.{Some, None, sym}
use Rattle.log_text.specs.Named.{commit_by, commit_named}
use Rattle.log_text.specs.Numbers.{word_of}
use Rattle.log_text.proofs.FormsRead.{read_and_then}
use Rattle.log_text.proofs.TokensRead.{is_read}
use Rattle.log_text.proofs.named.next_commit.Goals as goal

pub returns-in-Some : goal.returns-in-Some
returns-in-Some c =
    is_read commit_by 0 _ _ (commit_named c.in-Some.word.now) _ (sym c.commit_named.ensures) (read_and_then word_of commit_named 0 _ _ (Some c.in-Some.word.now) c.in-Some.ensures)

pub returns-in-None : goal.returns-in-None
returns-in-None c = read_and_then word_of commit_named 0 _ _ None c.in-None.ensures
