use Rattle.std.proofs.Common.{option_map}
use Rattle.json.specs.Reads.{token_of}
use Rattle.log_text.specs.Commands.{command_named}
use Rattle.log_text.specs.Held.{held}
use Rattle.log_text.proofs.LinesRead.{whole_none, whole_some, whole_more}
use Rattle.log_text.proofs.TokensRead.{are_read}
use Rattle.log_text.proofs.lines.whole_command.Goals as goal

pub returns-in-Some-next-clause-form : goal.returns-in-Some-next-clause-form
returns-in-Some-next-clause-form c =
    whole_more (λ parts. option_map (held c.args.most) (command_named c.args.name.now parts)) _ _ c.next.new.self (token_of c.in-Some-next.field-0) c.in-Some.command
    (are_read (λ parts. option_map (held c.args.most) (command_named c.args.name.now parts)) 4 _ _ _ _ c.in-Some.is c.in_ok-command.ensures.form) c.in-Some-next.ensures.value

pub returns-in-None-next-clause-form : goal.returns-in-None-next-clause-form
returns-in-None-next-clause-form c =
    whole_some (λ parts. option_map (held c.args.most) (command_named c.args.name.now parts)) _ _ c.in-Some.command
    (are_read (λ parts. option_map (held c.args.most) (command_named c.args.name.now parts)) 4 _ _ _ _ c.in-Some.is c.in_ok-command.ensures.form) c.in-None-next.ensures.value.0

pub returns-in-None-clause-form : goal.returns-in-None-clause-form
returns-in-None-clause-form c =
    whole_none (λ parts. option_map (held c.args.most) (command_named c.args.name.now parts)) _ _
    (are_read (λ parts. option_map (held c.args.most) (command_named c.args.name.now parts)) 4 _ _ _ _ c.in-None.is c.in_ok-command.ensures.form)
