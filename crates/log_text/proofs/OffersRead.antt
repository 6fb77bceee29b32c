-- What is offered, and its times behind it, are read one after another.
use Rattle.std.proofs.Common.{◌≡◌, ℕ, List, Bool, Option, Some, None, refl, sym, ap, subst, arith}
use Rattle.json.specs.Token.{Token}
use Rattle.json.specs.Json.{after_end_array}
use Rattle.txn.specs.declared.transactions.Txn.{Txn}
use Rattle.logged_fragments.specs.declared.logged.LoggedFragment.{LoggedFragment}
use Rattle.log_text.specs.Commands.{times_in}
use Rattle.log_text.specs.Items.{list_of, one_item}
use Rattle.log_text.specs.Kept.{made, offered_behind, offered_from, offered_within, txns_of}
use Rattle.log_text.specs.Numbers.{session_of, whole_number}
use Rattle.log_text.specs.Streams.{IsRead, AreRead}
use Rattle.log_text.specs.declared.commands.Command.{Command}
use Rattle.log_text.specs.declared.commands.Command.TheVariants.{Offer, OfferTimed}
use Rattle.log_text.proofs.TokensRead.{deeper, deeper_items, end_then, head_none, head_then, item_none, two_less}

module _ (logged : LoggedFragment) where
  pub no_times : (old new : List Token) (x : Command) → after_end_array old ≡ Some new → x ≡ Offer logged → AreRead (times_in logged) 1 old (Some x) new
  no_times old new x over is = end_then (times_in logged) 1 old new (Some x) over (ap Some (sym is))

  pub began_none : (old here mid new : List Token) → after_end_array old ≡ None → here ≡ old → IsRead (list_of whole_number) 1 here None mid → AreRead (times_in logged) 1 old None new
  began_none old here mid new going still read =
      item_none (times_in logged) (list_of whole_number) (λ began. one_item (OfferTimed logged began) (list_of whole_number)) (two_less (OfferTimed logged) (list_of whole_number) (list_of whole_number)) 1 old mid new going
      (subst (λ ts. IsRead (list_of whole_number) 1 ts None mid) still read)

  pub began_then : (old here mid new : List Token) (began : List ℕ) (found : Option Command) → here ≡ old → IsRead (list_of whole_number) 1 here (Some began) mid → AreRead (one_item (OfferTimed logged began) (list_of whole_number)) 1 mid found new → AreRead (times_in logged) 1 old found new
  began_then old here mid new began found still read rest =
      head_then (times_in logged) (list_of whole_number) (λ b. one_item (OfferTimed logged b) (list_of whole_number)) (two_less (OfferTimed logged) (list_of whole_number) (list_of whole_number)) 1 1 old mid new began found (omega arith)
      (subst (λ ts. IsRead (list_of whole_number) 1 ts (Some began) mid) still read) rest

module _ (most : Option ℕ) where
  pub txns_none : (session first : ℕ) (old mid new : List Token) → IsRead (txns_of most) 4 old None mid → AreRead (offered_from most session first) 4 old None new
  txns_none session first old mid new read = head_none (offered_from most session first) (txns_of most) (λ told. times_in (made session first told)) (λ given rest. refl) refl 4 old mid new read

  pub txns_then : (session first : ℕ) (old mid new : List Token) (told : List Txn × List Bool) (logged : LoggedFragment) (found : Option Command) → IsRead (txns_of most) 4 old (Some told) mid → logged ≡ made session first told → AreRead (times_in logged) 1 mid found new → AreRead (offered_from most session first) 4 old found new
  txns_then session first old mid new told logged found read is rest =
      head_then (offered_from most session first) (txns_of most) (λ given. times_in (made session first given)) (λ given behind. refl) 4 4 old mid new told found (omega arith) read
      (deeper_items (times_in (made session first told)) 1 4 mid new found (omega arith) (subst (λ l. AreRead (times_in l) 1 mid found new) is rest))

  pub first_none : (session : ℕ) (old mid new : List Token) → IsRead whole_number 0 old None mid → AreRead (offered_behind most session) 4 old None new
  first_none session old mid new read =
      head_none (offered_behind most session) whole_number (offered_from most session) (λ given rest. refl) refl 4 old mid new (deeper whole_number 0 4 old mid None (omega arith) read)

  pub first_then : (session : ℕ) (old mid new : List Token) (first : ℕ) (found : Option Command) → IsRead whole_number 0 old (Some first) mid → AreRead (offered_from most session first) 4 mid found new → AreRead (offered_behind most session) 4 old found new
  first_then session old mid new first found read rest = head_then (offered_behind most session) whole_number (offered_from most session) (λ given behind. refl) 0 4 old mid new first found (omega arith) read rest

  pub session_none : (old mid new : List Token) → IsRead session_of 0 old None mid → AreRead (offered_within most) 4 old None new
  session_none old mid new read = head_none (offered_within most) session_of (offered_behind most) (λ given rest. refl) refl 4 old mid new (deeper session_of 0 4 old mid None (omega arith) read)

  pub session_then : (old mid new : List Token) (session : ℕ) (found : Option Command) → IsRead session_of 0 old (Some session) mid → AreRead (offered_behind most session) 4 mid found new → AreRead (offered_within most) 4 old found new
  session_then old mid new session found read rest = head_then (offered_within most) session_of (offered_behind most) (λ given behind. refl) 0 4 old mid new session found (omega arith) read rest
