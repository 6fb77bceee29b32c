use Rattle.log_text.proofs.RepliesSaid.{says_reply}
use Rattle.log_text.proofs.ReportsRead.{report_back}
use Rattle.log_text.proofs.SavedRead.{saved_is_command}
use Rattle.log_text.proofs.ToldTexts.{reply_text}
use Rattle.log_text.proofs.replies.reply_bytes.Goals as goal

pub returns-clause-text : goal.returns-clause-text
returns-clause-text c = reply_text _ _ c.args.reply.now c.in_ok-value.ensures c.in_ok-bytes.ensures.text

pub returns-clause-says : goal.returns-clause-says
returns-clause-says c = says_reply _ _ c.args.reply.now c.in_ok-value.ensures c.in_ok-bytes.ensures.utf8 c.in_ok-bytes.ensures.reads_back

pub returns-clause-reads_back : goal.returns-clause-reads_back
returns-clause-reads_back c = saved_is_command _ c.args.reply.now (returns-clause-says c)

pub returns-clause-report_reads_back : goal.returns-clause-report_reads_back
returns-clause-report_reads_back c = report_back c.stars_are_of_keys.ensures _ c.args.reply.now (returns-clause-says c)
