-- Marks, flags and what has begun are read one after another.
use Rattle.std.proofs.Common.{◌≡◌, ℕ, List, Bool, Option, Some, None, refl, sym, ap, subst, arith}
use Rattle.json.specs.Token.{Token}
use Rattle.json.specs.Json.{after_end_array}
use Rattle.log_text.specs.Commands.{flag_of, begun_in, closed_in, marks_in}
use Rattle.log_text.specs.Items.{list_of, alone}
use Rattle.log_text.specs.Numbers.{whole_number}
use Rattle.log_text.specs.Streams.{IsRead, AreRead}
use Rattle.log_text.specs.declared.commands.Command.{Command}
use Rattle.log_text.specs.declared.commands.Command.TheVariants.{Marks, MarksBegun}
use Rattle.log_text.proofs.TokensRead.{end_none, end_then, head_none, head_then, item_none, one_less}

module _ (marks : List ℕ) (closed : List Bool) where
  pub nothing_begun : (old new : List Token) (x : Command) → after_end_array old ≡ Some new → x ≡ Marks marks closed → AreRead (begun_in marks closed) 1 old (Some x) new
  nothing_begun old new x over is = end_then (begun_in marks closed) 1 old new (Some x) over (ap Some (sym is))

  pub begun_none : (old here mid new : List Token) → after_end_array old ≡ None → here ≡ old → IsRead (list_of flag_of) 1 here None mid → AreRead (begun_in marks closed) 1 old None new
  begun_none old here mid new going still read =
      item_none (begun_in marks closed) (list_of flag_of) (λ begun. alone (MarksBegun marks closed begun)) (one_less (MarksBegun marks closed) (list_of flag_of)) 1 old mid new going (subst (λ ts. IsRead (list_of flag_of) 1 ts None mid) still read)

  pub begun_then : (old here mid new : List Token) (begun : List Bool) (x : Command) → here ≡ old → IsRead (list_of flag_of) 1 here (Some begun) mid → after_end_array mid ≡ Some new → x ≡ MarksBegun marks closed begun → AreRead (begun_in marks closed) 1 old (Some x) new
  begun_then old here mid new begun x still read over is =
      head_then (begun_in marks closed) (list_of flag_of) (λ b. alone (MarksBegun marks closed b)) (one_less (MarksBegun marks closed) (list_of flag_of)) 1 1 old mid new begun (Some x) (omega arith) (subst (λ ts. IsRead (list_of flag_of) 1 ts (Some begun) mid) still read)
      (end_then (alone (MarksBegun marks closed begun)) 1 mid new (Some x) over (ap Some (sym is)))

  pub begun_open : (old here mid new : List Token) (begun : List Bool) → here ≡ old → IsRead (list_of flag_of) 1 here (Some begun) mid → after_end_array mid ≡ None → AreRead (begun_in marks closed) 1 old None new
  begun_open old here mid new begun still read going =
      head_then (begun_in marks closed) (list_of flag_of) (λ b. alone (MarksBegun marks closed b)) (one_less (MarksBegun marks closed) (list_of flag_of)) 1 1 old mid new begun None (omega arith) (subst (λ ts. IsRead (list_of flag_of) 1 ts (Some begun) mid) still read)
      (end_none (alone (MarksBegun marks closed begun)) 1 mid new going (λ given rest. refl))

pub marks_none : (old mid new : List Token) → IsRead (list_of whole_number) 1 old None mid → AreRead marks_in 1 old None new
marks_none old mid new read = head_none marks_in (list_of whole_number) closed_in (λ given rest. refl) refl 1 old mid new read

pub marks_then : (old mid new : List Token) (marks : List ℕ) (found : Option Command) → IsRead (list_of whole_number) 1 old (Some marks) mid → AreRead (closed_in marks) 1 mid found new → AreRead marks_in 1 old found new
marks_then old mid new marks found read rest = head_then marks_in (list_of whole_number) closed_in (λ given behind. refl) 1 1 old mid new marks found (omega arith) read rest

pub closed_none : (marks : List ℕ) (old mid new : List Token) → IsRead (list_of flag_of) 1 old None mid → AreRead (closed_in marks) 1 old None new
closed_none marks old mid new read =
    head_none (closed_in marks) (list_of flag_of) (begun_in marks) (λ given rest. refl) refl 1 old mid new read

pub closed_then : (marks : List ℕ) (old mid new : List Token) (closed : List Bool) (found : Option Command) → IsRead (list_of flag_of) 1 old (Some closed) mid → AreRead (begun_in marks closed) 1 mid found new → AreRead (closed_in marks) 1 old found new
closed_then marks old mid new closed found read rest = head_then (closed_in marks) (list_of flag_of) (begun_in marks) (λ given behind. refl) 1 1 old mid new closed found (omega arith) read rest
