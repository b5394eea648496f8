-- The journal's records, with their fields and names, stand at the places of the window's list, one at each. Assumes nothing.
use Prim.Native.Nat.{ℕ, zero, suc, ◌+◌}
use mathlib.Core.Path.{◌≡◌, refl, sym, ap, ◌∙◌}
use mathlib.Core.List.{List, [], ◌∷◌, ◌++◌, append_assoc}
use mathlib.Core.Bool.{cond, ◌||◌}
use lib.ListN.{length}
use lib.Dec.{ltb, eqb}
use Rattle.base.specs.Outcome.{Outcome, refused, answered}
use Rattle.base.specs.declared.Place.{Place}
use Rattle.base.proofs.ChoiceLaws.{cond_cases}
use Rattle.usn_record.specs.Bytes.{le_at}
use Rattle.usn_record.specs.Record.{listed}
use Rattle.usn_record.specs.declared.UsnRecord.{UsnRecord}
use Rattle.window_numbers.specs.Numbers.{window_size}
use Rattle.usn_window.specs.Journal.{WindowStep, over, onto, found, refill_to, step_at, after_step, steps, to_come, window_list}
use Rattle.usn_window.specs.Delivery.{Got, own_of, records_at, journal_records, places_in}

places-append : (xs ys : List Got) → places_in (xs ++ ys) ≡ places_in xs ++ places_in ys
places-append [] ys = refl
places-append (x ∷ xs) ys = ap (λ (l : List Place). x.place ∷ l) (places-append xs ys)

module _ (s : List ℕ) where
  at-append : (ps qs : List Place) → records_at s (ps ++ qs) ≡ records_at s ps ++ records_at s qs
  at-append [] qs = refl
  at-append (p ∷ ps) qs =
      let o : List Got = own_of s p (listed s p.offset) in
      ap (λ (l : List Got). o ++ l) (at-append ps qs) ∙ sym (append_assoc o (records_at s ps) (records_at s qs))

  abbrev Own : List Place → Type 0
  Own ps = places_in (records_at s ps) ≡ ps

  own-append : (ps qs : List Place) → Own ps → Own qs → Own (ps ++ qs)
  own-append ps qs h k = rw (at-append ps qs, places-append (records_at s ps) (records_at s qs), h, k)

  abbrev OwnStep : WindowStep → Type 0
  OwnStep over = Unit {0}
  OwnStep (onto ps q f) = Own ps

  own-found : (p n : ℕ) (x : Outcome UsnRecord) → listed s p ≡ x → Own (found p n x)
  own-found p n (refused m) e = refl
  own-found p n (answered r) e = rw e

  own-refill : (p e q : ℕ) → OwnStep (refill_to (length s) p e q)
  own-refill p e q = cond_cases OwnStep (eqb e (length s)) (λ _. tt) (λ _. refl)

  own-step : (p e : ℕ) → OwnStep (step_at s p e)
  unfolding step_at
  own-step p e =
      let n = le_at 4 s p in
      cond_cases OwnStep (ltb e (p + 8)) (λ _. own-refill p e p) λ _.
      cond_cases OwnStep (ltb n 8 || ltb window_size n) (λ _. refl) λ _.
      cond_cases OwnStep (ltb e (p + n)) (λ _. own-refill p e (cond (ltb (length s) (p + n)) (p + 8) p)) λ _.
      own-found p n (listed s p) refl

  own-after : (x : WindowStep) (f : ℕ → ℕ → List Place) → OwnStep x → ((q e : ℕ) → Own (f q e)) → Own (after_step x f)
  own-after over f h k = refl
  own-after (onto ps q e) f h k = own-append ps (f q e) h (k q e)

  own-steps : (k p e : ℕ) → Own (steps s k p e)
  unfolding steps
  own-steps zero p e = refl
  own-steps (suc k) p e = own-after (step_at s p e) (steps s k) (own-step p e) (own-steps k)

  pub records-places : places_in (journal_records s) ≡ window_list s
  unfolding to_come
  records-places = own-steps _ 0 0
