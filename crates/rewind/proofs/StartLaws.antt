-- The start of a rewind by its ways out: the answer, and what the words of both tables then hold. Assumes nothing.
use Prim.Native.Nat.{ℕ, ◌+◌, ◌-◌, ◌*◌, ◌≤◌}
use mathlib.Core.Path.{◌≡◌, ap, sym, ◌∙◌}
use mathlib.Core.List.{List}
use mathlib.Core.Bool.{Bool, true, false, or-true}
use native.Mathlib.Omega.{arith}
use borrow.Author.Tests.{leb-true, leb-false, le-ltb, lt-ltb}
use lib.ListN.{length, take, drop, length-take}
use lib.Seq.{sets}
use lib.Dec.{leb, ltb}
use Rattle.base.specs.Outcome.{Outcome, refused, answered, outcome}
use Rattle.base.specs.Refusals.{table_full, number_of}
use Rattle.base.proofs.ListLaws.{sets-front}
use Rattle.entry_slots.specs.Slots.{stride, slots_in}
use Rattle.entry_slots.specs.Table.{Table, known}
use Rattle.additions.specs.Storing.{add_all, new_keys, keys_of, adding, used_after, words_after}
use Rattle.additions.proofs.CountLaws.{adding-room, used_all}
use Rattle.additions.proofs.KeptLaws.{all-kept}
use Rattle.rewind_records.specs.Environment.{Environment, environment_of, rewind_refusal, additions}
use Rattle.rewind.specs.Starting.{copied, starting, started}
use Rattle.rewind.specs.Promise.{Starts}
use Rattle.std.specs.Prelude.{Result, Ok, Err}
use Rattle.base.specs.Words.{number}
use Rattle.base.specs.declared.refusal.Refusal.{Refusal}
use Rattle.base.specs.declared.refusal.Refusal.TheVariants.{TableFull}
use Rattle.rewind.specs.declared.Rewind.{Rewind}
use Rattle.additions.specs.Walking.{walked_back}
use Rattle.rewind_records.proofs.RecordLaws.{additions-back}
use Rattle.rewind_records.proofs.TurnLaws.{passed, checks, check-refused, check-passed}

module _ (journal image l : List ℕ) (t : Table) (words : List ℕ) where
  abbrev env : Environment
  env = environment_of journal image l

  abbrev Comes : Result Rewind Refusal → List ℕ → List ℕ → Type 0
  Comes = Starts journal image l t words

  refuses : {k : Refusal} → started journal image l t words ≡ refused (number_of k) → Comes (Err k) t.words words
  refuses e = record { answer = rw e; first = rw e; forward = rw e }

  module _ {tested : Result Unit Refusal} (e : number (outcome tested) ≡ rewind_refusal env t) where
    pub start-refused : {k : Refusal} → tested ≡ Err k → Comes (Err k) t.words words
    unfolding starting
    start-refused h = refuses (check-refused env t e _ h)

    module _ {a : Unit} (h : tested ≡ Ok a) where
      abbrev need : ℕ
      need = t.used + new_keys (known t) (keys_of (walked_back journal l))

      back : additions env ≡ walked_back journal l
      back = additions-back journal l (passed env t (checks env t e h)).records (length image)

      pub start_fits : t.used ≤ slots_in t.words
      start_fits = (passed env t (checks env t e h)).fits

      pub first-full : {b : Bool} → b ≡ leb need (slots_in t.words) → b ≡ false → Comes (Err TableFull) t.words words
      unfolding starting
      first-full f g =
          let x : ltb (slots_in t.words) need ≡ true = lt-ltb _ _ (leb-false need (slots_in t.words) (sym f ∙ g)) in
          refuses (check-passed env t e _ h ∙ rw (back, x))

      module _ {b : Bool} (f : b ≡ leb need (slots_in t.words)) (g : b ≡ true) where
        pub first-room : need ≤ slots_in t.words
        first-room = leb-true _ _ (sym f ∙ g)

        pub forward-full : {d : Bool} → d ≡ leb need (slots_in words) → d ≡ false → Comes (Err TableFull) t.words words
        unfolding starting
        forward-full p q =
            let x : ltb (slots_in words) need ≡ true = lt-ltb _ _ (leb-false need (slots_in words) (sym p ∙ q)) in
            refuses (check-passed env t e _ h ∙ rw (back, x, or-true))

        module _ {d : Bool} (p : d ≡ leb need (slots_in words)) (q : d ≡ true) where
          forward-room : need ≤ slots_in words
          forward-room = leb-true _ _ (sym p ∙ q)

          all : adding t (walked_back journal l) ≡ answered (add_all t (walked_back journal l))
          all = adding-room t (walked_back journal l) first-room

          pub starts : started journal image l t words ≡ answered (record { first = add_all t (walked_back journal l); forward = copied (add_all t (walked_back journal l)) words })
          unfolding starting
          starts = check-passed env t e _ h ∙ rw (back, le-ltb _ _ first-room, le-ltb _ _ forward-room)

          -- no addition is refused
          pub start-never : {o : Outcome ℕ} {m : ℕ} → o ≡ used_after (adding t (walked_back journal l)) → o ≡ refused m → ⊥
          start-never x y =
              let z = sym y ∙ x ∙ ap used_after all in
              let w : ◌≡◌ {A = ℕ} 0 1 = cc in
              omega arith

          module _ {o : Outcome ℕ} {m : ℕ} {s : List ℕ} (x : o ≡ used_after (adding t (walked_back journal l))) (y : o ≡ answered m)
              (z : s ≡ words_after (adding t (walked_back journal l)) t.words) where
            after-used : m ≡ (add_all t (walked_back journal l)).used
            after-used = let w : answered m ≡ answered (add_all t (walked_back journal l)).used = sym y ∙ x ∙ ap used_after all in cc

            after-words : s ≡ (add_all t (walked_back journal l)).words
            after-words = z ∙ ap (λ (k : Outcome Table). words_after k t.words) all

            -- what is copied has room
            pub used-need : m ≡ need
            used-need = after-used ∙ used_all t (walked_back journal l) first-room

            pub copy-room : m * stride ≤ length words
            copy-room = omega (arith, used-need, forward-room)

            pub copied-room : m * stride ≤ length s
            copied-room =
                let long : length s ≡ length t.words = ap length after-words ∙ (all-kept t (walked_back journal l)).long in
                omega (arith, used-need, first-room)

            pub start-begun : {f : List ℕ} → f ≡ sets words 0 (take (m * stride) s) → Comes (Ok (record { used = m; position = 0 })) s f
            start-begun {f} w =
                let g : length (take (m * stride) s) ≤ length words = simp length-take (omega (arith, copy-room)) in
                let v : f ≡ (copied (add_all t (walked_back journal l)) words).words = w ∙ sets-front words (take (m * stride) s) g ∙ rw (after-used, after-words) in
                record { answer = rw (starts, after-used); first = rw starts after-words; forward = rw starts v }
