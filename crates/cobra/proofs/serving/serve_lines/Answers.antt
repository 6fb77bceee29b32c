use Rattle.std.proofs.Common.{◌≡◌, [], ◌++◌, take, Err, refl, ap, ◌∙◌, inr, arith}
use Rattle.std.proofs.KnownBytes.{Appends-nil, Appends-trans, Appends-kept}
use Rattle.std.proofs.lemmas.Result.{err_from_is_err_and}
use Rattle.list_lemmas.proofs.Options.{if_some_from}
use Rattle.byte_lines.specs.declared.failures.Failure.{Failure}
use Rattle.byte_lines.specs.declared.failures.Failure.TheVariants.{Device, NoMemory}
use Rattle.cobra.specs.Outputs.{IsOutput, StopsForMemory, StopsReading, StopsWriting}
use Rattle.cobra.proofs.ServedLines.{where_told, is_device, is_memory, serving_first, serving_read, serving_on, stops_for_memory, stops_for_memory_at_line, stops_reading, stops_writing, ends_whole}
use Rattle.cobra.proofs.serving.serve_lines.Goals as goal

pub loop-next-init : goal.loop-next-init
loop-next-init g c = record {
  fresh = c.requires.under_way;
  limit = c.requires.limit;
  told = λ input told. ([], Appends-nil _, serving_first input c.args.reader.now _ (g.R.ByteSource.last_read c.args.source.now) c.args.script.now.stage told c.requires.ahead c.requires.unbegun);
  read = refl;
  written = refl;
}

pub returns-in_err-next-clause-stops_reading : goal.returns-in_err-next-clause-stops_reading
returns-in_err-next-clause-stops_reading g c = λ failed.
    let error : Failure = c.in_err-next.field-0.0 in
    let device : error ≡ Device = is_device error (λ memory. absurd (omega (arith, failed, c.in_err-next.ensures.memory (ap (λ (e : Failure). Err e) memory), c.loop-next.invariant.read))) in
    let stopped = c.in_err-next.ensures.stopped in
    where_told StopsReading _ _ _ _ (λ input told.
    let front = c.loop-next.invariant.told input told in
    (front.0, stops_reading input c.loop-next.reader c.next_line.new.self _ _ _ front.0 c.loop-next.script.stage stopped.0 front.2 stopped.1 stopped.2 (c.in_err-next.ensures.all_used (ap (λ (e : Failure). Err e) device)), front.1))

pub returns-in_err-next-clause-stops_for_memory : goal.returns-in_err-next-clause-stops_for_memory
returns-in_err-next-clause-stops_for_memory g c = λ memory.
    let stopped = c.in_err-next.ensures.stopped in
    where_told StopsForMemory _ _ _ _ (λ input told.
    let front = c.loop-next.invariant.told input told in
    (front.0, stops_for_memory input c.loop-next.reader _ _ _ front.0 c.loop-next.script.stage stopped.0 front.2 stopped.1, front.1))

pub returns-in-End-clause-whole : goal.returns-in-End-clause-whole
returns-in-End-clause-whole g c =
    let line = c.in_ok-next.ensures.line in
    let next = rw c.in-End.is at (c.in_ok-next.ensures.next c.loop-next.invariant.fresh) in
    where_told (λ input left output. IsOutput input output) _ (g.R.ByteSource.remaining c.next_line.new.source) _ _ (λ input told.
    let front = c.loop-next.invariant.told input told in
    (front.0, (ends_whole input c.loop-next.reader c.next_line.new.self _ _ _ front.0 c.loop-next.script.stage line.0 front.2 line.1 next).1, front.1))

pub returns-in_err-reply_to-clause-stops_reading : goal.returns-in_err-reply_to-clause-stops_reading
returns-in_err-reply_to-clause-stops_reading g c = λ failed. absurd (omega (arith, failed, c.in_ok-next.ensures.ok, c.loop-next.invariant.read))

pub returns-in_err-reply_to-clause-stops_writing : goal.returns-in_err-reply_to-clause-stops_writing
returns-in_err-reply_to-clause-stops_writing g c = λ failed.
    let error : Failure = c.in_err-reply_to.field-0.0 in
    let device : error ≡ Device = is_device error (λ memory. absurd (omega (arith, failed, c.in_err-reply_to.ensures.unfailed (ap (λ (e : Failure). Err e) memory), c.loop-next.invariant.written))) in
    let part = c.in_err-reply_to.ensures.front (ap (λ (e : Failure). Err e) device) in
    let line = c.in_ok-next.ensures.line in
    let next = c.in_ok-next.ensures.next c.loop-next.invariant.fresh in
    where_told (λ input left output. StopsWriting input left (g.R.ByteSource.last_read c.next_line.new.source) output) _ _ _ _ (λ input told.
    let front = c.loop-next.invariant.told input told in
    let taken = serving_read input c.loop-next.reader c.next_line.new.self _ _ _ (g.R.ByteSource.last_read c.next_line.new.source) front.0 c.loop-next.script.stage line.0 c.in_ok-next.next front.2 line.1 line.2 line.3 c.loop-next.invariant.limit next c.in_default.not-End in (
      front.0 ++ take part.1 part.0,
      stops_writing input c.next_line.new.self _ (g.R.ByteSource.last_read c.next_line.new.source) front.0 c.loop-next.script.stage c.reply_to.new.script.stage taken.0 part.0 c.in_ok-next.next part.1 taken.2 taken.1 part.2 part.3,
      Appends-trans _ _ _ _ _ front.1 part.4,
    ))

pub returns-in_err-reply_to-clause-stops_for_memory : goal.returns-in_err-reply_to-clause-stops_for_memory
returns-in_err-reply_to-clause-stops_for_memory g c =
    let p = err_from_is_err_and c.from_residual-in_err-reply_to.result c.from_residual-in_err-reply_to.ensures.1 in
    let line = c.in_ok-next.ensures.line in
    let next = c.in_ok-next.ensures.next c.loop-next.invariant.fresh in
    rw (p.1, p.2) (λ memory. where_told StopsForMemory _ _ _ _ (λ input told.
    let front = c.loop-next.invariant.told input told in
    let taken = serving_read input c.loop-next.reader c.next_line.new.self _ _ _ (g.R.ByteSource.last_read c.next_line.new.source) front.0 c.loop-next.script.stage line.0 c.in_ok-next.next front.2 line.1 line.2 line.3 c.loop-next.invariant.limit next c.in_default.not-End in
    (front.0, stops_for_memory_at_line input c.next_line.new.self _ (g.R.ByteSource.last_read c.next_line.new.source) front.0 c.loop-next.script.stage _ taken.2, Appends-kept _ _ _ _ front.1 (c.in_err-reply_to.ensures.unwritten memory))))

pub returns-in_err-reply_to-clause-device : goal.returns-in_err-reply_to-clause-device
returns-in_err-reply_to-clause-device g c =
    let p = err_from_is_err_and c.from_residual-in_err-reply_to.result c.from_residual-in_err-reply_to.ensures.1 in
    rw (p.1, p.2) (λ device. inr (c.in_ok-next.ensures.ok ∙ c.loop-next.invariant.read, omega (arith, c.in_err-reply_to.ensures.failed device, c.loop-next.invariant.written)))

pub returns-in_err-reply_to-clause-none_failed : goal.returns-in_err-reply_to-clause-none_failed
returns-in_err-reply_to-clause-none_failed g c =
    let p = err_from_is_err_and c.from_residual-in_err-reply_to.result c.from_residual-in_err-reply_to.ensures.1 in
    let error : Failure = c.in_err-reply_to.field-0.0 in
    rw (p.1, p.2) (λ not.
    let memory : error ≡ NoMemory = is_memory error (λ device. not (ap (λ (e : Failure). Err e) device)) in
    (c.in_ok-next.ensures.ok ∙ c.loop-next.invariant.read, c.in_err-reply_to.ensures.unfailed (ap (λ (e : Failure). Err e) memory) ∙ c.loop-next.invariant.written))

pub returns-in_err-next-clause-none_failed : goal.returns-in_err-next-clause-none_failed
returns-in_err-next-clause-none_failed g c =
    let p = err_from_is_err_and c.from_residual.result c.from_residual.ensures.1 in
    let error : Failure = c.in_err-next.field-0.0 in
    rw (p.1, p.2) (λ not.
    let memory : error ≡ NoMemory = is_memory error (λ device. not (ap (λ (e : Failure). Err e) device)) in
    (c.in_err-next.ensures.memory (ap (λ (e : Failure). Err e) memory) ∙ c.loop-next.invariant.read, c.loop-next.invariant.written))

pub returns-in-End-clause-at_end : goal.returns-in-End-clause-at_end
returns-in-End-clause-at_end g c =
    let line = c.in_ok-next.ensures.line in
    let next = rw c.in-End.is at (c.in_ok-next.ensures.next c.loop-next.invariant.fresh) in
    if_some_from _ _ (λ input told.
    let front = c.loop-next.invariant.told input told in
    (ends_whole input c.loop-next.reader c.next_line.new.self _ (g.R.ByteSource.remaining c.next_line.new.source) _ front.0 c.loop-next.script.stage line.0 front.2 line.1 next).0)

pub loop-next-preserved : goal.loop-next-preserved
loop-next-preserved g c =
    let line = c.in_ok-next.ensures.line in
    let next = c.in_ok-next.ensures.next c.loop-next.invariant.fresh in
    let replied = c.in_ok-reply_to.ensures.written in
    record {
      fresh = line.2.fresh;
      limit = c.in_ok-next.ensures.limit ∙ c.loop-next.invariant.limit;
      told = λ input told.
          let front = c.loop-next.invariant.told input told in
          serving_on input c.loop-next.reader c.next_line.new.self _ _ _ _ _ _ (g.R.ByteSource.last_read c.next_line.new.source) front.0 c.loop-next.script.stage c.reply_to.new.script.stage line.0 c.in_ok-next.next replied.0 front.2 line.1 line.2 line.3 c.loop-next.invariant.limit next c.in_default.not-End replied.1 front.1 replied.2;
      read = c.in_ok-next.ensures.ok ∙ c.loop-next.invariant.read;
      written = c.in_ok-reply_to.ensures.ok ∙ c.loop-next.invariant.written;
    }

pub loop-next-preserved-in_ok-reply_to : goal.loop-next-preserved-in_ok-reply_to
loop-next-preserved-in_ok-reply_to g c =
    let line = c.in_ok-next.ensures.line in
    let next = c.in_ok-next.ensures.next c.loop-next.invariant.fresh in
    let replied = c.in_ok-reply_to.ensures.written in
    record {
      fresh = line.2.fresh;
      limit = c.in_ok-next.ensures.limit ∙ c.loop-next.invariant.limit;
      told = λ input told.
          let front = c.loop-next.invariant.told input told in
          serving_on input c.loop-next.reader c.next_line.new.self _ _ _ _ _ _ (g.R.ByteSource.last_read c.next_line.new.source) front.0 c.loop-next.script.stage c.reply_to.new.script.stage line.0 c.in_ok-next.next replied.0 front.2 line.1 line.2 line.3 c.loop-next.invariant.limit next c.in_default.not-End replied.1 front.1 replied.2;
      read = c.in_ok-next.ensures.ok ∙ c.loop-next.invariant.read;
      written = c.in_ok-reply_to.ensures.ok ∙ c.loop-next.invariant.written;
    }
