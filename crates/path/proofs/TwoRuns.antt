-- Two runs whose journals and images have equal lengths: only the text, and whether it fits, can differ. And a text that was too small can be
-- made large enough. Assumes nothing.
use Prim.Native.Nat.{ℕ, ◌≤◌}
use mathlib.Core.Path.{◌≡◌, refl}
use mathlib.Core.List.{List}
use mathlib.Core.Bool.{Bool, true, false, cond, not}
use mathlib.Core.Logic.{◌⊎◌, inl, inr, ⊎_elim}
use native.Mathlib.Omega.{arith}
use lib.ListN.{length}
use lib.Dec.{ltb}
use Rattle.base.specs.Outcome.{Outcome, refused, answered}
use Rattle.base.specs.Refusals.{above_domain, name_outside, text_full, domain}
use Rattle.base.proofs.ChoiceLaws.{cond_cases}
use Rattle.entry_slots.specs.Names.{Lengths, lengths_of, inside}
use Rattle.entry_slots.specs.Table.{Table}
use Rattle.entry_slots.specs.declared.EntryKey.{EntryKey}
use Rattle.entry_slots.specs.declared.NamePlace.{NamePlace}
use Rattle.chain.specs.Tracing.{in_domain, tracing}
use Rattle.chain.proofs.TwoRuns.{core-refusals}
use Rattle.path_text.specs.Text.{place_text, path_text}
use Rattle.path_text.specs.Decoding.{with_text, placing, place_decoding}
use Rattle.path.specs.Written.{tracing_with_text}
use Rattle.path.specs.Alike.{Beside, Alike}
use Rattle.path_text.proofs.CallLaws.{text-fits}

pub with-text : {A : Type 0} (text : A → List ℕ) (room : ℕ) (o : Outcome A) → Beside o (with_text text room o)
with-text text room (refused n) = refl
with-text text room (answered a) = go (ltb room (length (text a)))
  where
    go : (b : Bool) → (cond b (refused text_full) (answered a) ≡ answered a) ⊎ (cond b (refused text_full) (answered a) ≡ refused text_full)
    go true = inr refl
    go false = inl refl

-- The path of a key, for any two texts: the same refusal among 1, 9 and 7, or the same chain, end and names, or 8.
pub path-two-runs : (journal journal' image image' : List ℕ) (t : Table) (depth : ℕ) (k : EntryKey) (room room' : ℕ)
    → length journal' ≡ length journal → length image' ≡ length image
    → Alike (tracing (lengths_of journal image) t depth k) (tracing_with_text journal image t depth k room) (tracing_with_text journal' image' t depth k room')
path-two-runs journal journal' image image' t depth k room room' e f =
    let core = tracing (lengths_of journal image) t depth k in
    record { first = with-text (path_text journal image) room core; second = rw (e, f) (with-text (path_text journal' image') room' core) }

-- The name at a place, for any two texts: the same refusal among 1 and 7, or an answer or 8.
pub decode-two-runs : (journal journal' image image' : List ℕ) (p : NamePlace) (room room' : ℕ)
    → length journal' ≡ length journal → length image' ≡ length image
    → Alike (placing (lengths_of journal image) p) (place_decoding journal image p room) (place_decoding journal' image' p room')
decode-two-runs journal journal' image image' p room room' e f =
    let core = placing (lengths_of journal image) p in
    record { first = with-text (place_text journal image) room core; second = rw (e, f) (with-text (place_text journal' image') room' core) }

-- a place is refused with 1 or 7 alone
pub place-refusals : (ls : Lengths) (p : NamePlace) {n : ℕ} → placing ls p ≡ refused n → (n ≡ above_domain) ⊎ (n ≡ name_outside)
unfolding placing in_domain
place-refusals ls p {n} =
    let P : Outcome NamePlace → Type 0 = λ o. o ≡ refused n → (n ≡ above_domain) ⊎ (n ≡ name_outside) in
    cond_cases P (ltb domain ls.journal) (λ y e. inl (cc))
    (λ a. cond_cases P (ltb domain ls.image) (λ y e. inl (cc))
    (λ b. cond_cases P (not (inside ls p)) (λ y e. inr (cc))
    (λ i e. let z : ◌≡◌ {A = ℕ} 0 1 = cc in absurd (omega arith))))

-- what is answered where a text is large enough
pub record Answers {A : Type 0} (text : A → List ℕ) (core : Outcome A) : Type 0 where
  pub answer : A
  pub answers : core ≡ answered answer
  pub again : (room : ℕ) → length (text answer) ≤ room → with_text text room core ≡ answered answer

pub retried : {A : Type 0} (text : A → List ℕ) (room : ℕ) (core : Outcome A) → (core ≡ refused text_full → ⊥) → with_text text room core ≡ refused text_full → Answers text core
retried text room (refused n) never e = absurd (never e)
retried text room (answered a) never e = record { answer = a; answers = refl; again = λ room h. text-fits text room refl h }

-- A path that 8 refused, repeated with a text of at least its path's length, is answered.
pub path-again : (journal image : List ℕ) (t : Table) (depth : ℕ) (k : EntryKey) (room : ℕ) → tracing_with_text journal image t depth k room ≡ refused text_full
    → Answers (path_text journal image) (tracing (lengths_of journal image) t depth k)
path-again journal image t depth k room =
    retried (path_text journal image) room (tracing (lengths_of journal image) t depth k)
    (λ e. ⊎_elim (λ z. omega arith) (⊎_elim (λ z. omega arith) (λ z. omega arith)) (core-refusals (lengths_of journal image) t depth k e))

-- So is a name.
pub decode-again : (journal image : List ℕ) (p : NamePlace) (room : ℕ) → place_decoding journal image p room ≡ refused text_full
    → Answers (place_text journal image) (placing (lengths_of journal image) p)
decode-again journal image p room =
    retried (place_text journal image) room (placing (lengths_of journal image) p)
    (λ e. ⊎_elim (λ z. omega arith) (λ z. omega arith) (place-refusals (lengths_of journal image) p e))
