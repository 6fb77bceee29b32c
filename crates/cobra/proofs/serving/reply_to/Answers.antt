use Rattle.cobra.proofs.serving.reply_to.Goals as goal

pub returns-in_err-write_all-clause-front : goal.returns-in_err-write_all-clause-front
returns-in_err-write_all-clause-front g c = λ device.
    let part = rw c.deref.ensures.value at c.in_err-write_all.ensures.front in
    (c.in_ok-text.text.items, part.0, c.in_ok-text.ensures, part.1, part.2)

pub returns-clause-written : goal.returns-clause-written
returns-clause-written g c =
    let written = rw c.deref.ensures.value at c.in_ok-write_all.ensures.written in
    (c.in_ok-text.text.items, c.in_ok-text.ensures, written)
