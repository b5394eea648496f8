-- The ways out of the call, by its tests: the outcome, and what the text then holds. Assumes nothing.
use Prim.Native.Nat.{ℕ, ◌≤◌, ◌<◌}
use Rattle.std.specs.Prelude.{Result, Ok, Err}
use mathlib.Core.Path.{◌≡◌, ap, ◌∙◌}
use mathlib.Core.List.{List}
use mathlib.Core.Bool.{true, false}
use native.Mathlib.Nat.{zero-add}
use borrow.Author.Tests.{lt-ltb, le-ltb}
use lib.ListN.{length}
use Rattle.base.specs.Outcome.{Outcome, refused, answered}
use Rattle.base.specs.Refusals.{text_full, domain, number_of}
use Rattle.base.proofs.ListLaws.{sets-front}
use Rattle.base.specs.declared.refusal.Refusal.{Refusal}
use Rattle.base.specs.declared.refusal.Refusal.TheVariants.{AboveDomain, NameOutside, TextFull}
use Rattle.utf16.proofs.PutLaws.{Put}
use Rattle.entry_slots.specs.Names.{lengths_of, inside}
use Rattle.entry_slots.specs.declared.NamePlace.{NamePlace}
use Rattle.chain.proofs.CallLaws.{journal-above, image-above, both-within}
use Rattle.path_text.specs.Text.{place_text}
use Rattle.path_text.specs.Decoding.{with_text, placing}
use Rattle.path_text.specs.Promise.{decode_out, Decodes}

-- text that does not fit, and text that does
module _ {A : Type 0} (text : A → List ℕ) (room : ℕ) {o : Outcome A} {a : A} (e : o ≡ answered a) where
  pub text-over : room < length (text a) → with_text text room o ≡ refused text_full
  text-over h = rw (e, lt-ltb room (length (text a)) h)

  pub text-fits : length (text a) ≤ room → with_text text room o ≡ answered a
  text-fits h = rw (e, le-ltb room (length (text a)) h)

-- decoding the name at a place
module _ (journal image : List ℕ) (p : NamePlace) (l : List ℕ) where
  abbrev Comes' : Result ℕ Refusal → List ℕ → Type 0
  Comes' = Decodes journal image p l

  unread : {r : Refusal} → decode_out journal image p l ≡ refused (number_of r) → Comes' (Err r) l
  unread e = record { answer = rw e; written = rw e }

  unplaced : {r : Refusal} → placing (lengths_of journal image) p ≡ refused (number_of r) → Comes' (Err r) l
  unplaced e = unread (rw e)

  pub decode-journal : domain < length journal → Comes' (Err AboveDomain) l
  unfolding placing
  decode-journal h = unplaced (journal-above (lengths_of journal image) _ h)

  module _ (a : length journal ≤ domain) where
    pub decode-image : domain < length image → Comes' (Err AboveDomain) l
    unfolding placing
    decode-image h = unplaced (image-above (lengths_of journal image) _ a h)

    module _ (b : length image ≤ domain) where
      pub decode-outside : inside (lengths_of journal image) p ≡ false → Comes' (Err NameOutside) l
      unfolding placing
      decode-outside e = unplaced (both-within (lengths_of journal image) _ a b ∙ simp e)

      module _ (e : inside (lengths_of journal image) p ≡ true) where
        placed : placing (lengths_of journal image) p ≡ answered p
        unfolding placing
        placed = both-within (lengths_of journal image) _ a b ∙ simp e

        pub decode-full : {n : ℕ} → n ≡ length (place_text journal image p) → length l < n → Comes' (Err TextFull) l
        decode-full f h = unread (text-over (place_text journal image) (length l) placed (rw f at h))

        pub decode-written : {n r : ℕ} {m : List ℕ} → n ≡ length (place_text journal image p) → n ≤ length l → Put l m 0 r (place_text journal image p)
            → Comes' (Ok r) m
        decode-written f h q =
            let fits : length (place_text journal image p) ≤ length l = rw f at h in
            let o = text-fits (place_text journal image) (length l) placed fits in
            record { answer = rw o (ap answered (q.value ∙ zero-add _)); written = rw o (q.text_after ∙ sets-front l (place_text journal image p) fits) }
