-- Short reads give what full reads give: however a journal within the domain is delivered, the end is reached and the records are the same. Every
-- asking, and every giving of one or more of the bytes that are owed, is a size's call, so no way of delivering is left out. Assumes nothing.
use Prim.Native.Nat.{ℕ, ◌≤◌, ◌<◌, min}
use mathlib.Core.Path.{◌≡◌, refl, sym, ap, ◌∙◌}
use mathlib.Core.List.{List}
use mathlib.Core.Bool.{Bool, true, false, cond, ◌||◌}
use native.Mathlib.Omega.{arith}
use lib.ListN.{length}
use lib.Dec.{eqb}
use borrow.Author.Tests.{ne_eqb}
use Rattle.base.specs.Places.{part}
use Rattle.window_numbers.specs.Numbers.{stream_domain}
use Rattle.usn_window.specs.Run.{next, give}
use Rattle.usn_window.specs.Owed.{Owed}
use Rattle.usn_window.specs.Delivery.{call_of, ended, journal_records, Way, delivered_by, Delivered}
use Rattle.usn_window.proofs.OwnLaws.{records-places}
use Rattle.usn_window.proofs.Progress.{delivered}

pub short-reads-give-what-full-reads-give : (s : List ℕ) → length s ≤ stream_domain → Delivered s
short-reads-give-what-full-reads-give s h = record { all = all; same = λ v w. all v ∙ sym (all w); places = records-places s }
  where
    all : (w : Way (length s)) → delivered_by s w ≡ ended (journal_records s)
    all w = delivered s w.buffer w.sizes h w.whole w.enough

-- the calls that sizes stand for
module _ (s : List ℕ) (o : Owed) where
  pub any-asking : call_of s 0 o ≡ next
  any-asking = by (eqb o.bytes 0)
    where
      by : (t : Bool) → cond (t || true) next (give (part s o.from (min 0 o.bytes))) ≡ next
      by true = refl
      by false = refl

  pub any-giving : (x : List ℕ) → 0 < length x → length x ≤ o.bytes → x ≡ part s o.from (length x) → call_of s (length x) o ≡ give x
  any-giving x a b e =
      let m : min (length x) o.bytes ≡ length x = omega arith in
      rw (ne_eqb o.bytes 0 (λ z. omega arith), ne_eqb (length x) 0 (λ z. omega arith), m) (ap give (sym e))
