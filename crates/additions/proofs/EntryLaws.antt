-- The entry at a listed offset, by what the parser says there, and that its name lies in the journal. Assumes nothing.
use Prim.Native.Nat.{ℕ, ◌+◌, ◌/◌, ◌%◌, ◌≤◌}
use mathlib.Core.Path.{◌≡◌, refl, ap, sym, ◌∙◌}
use mathlib.Core.List.{List}
use Rattle.std.specs.Prelude.{Result, Ok}
use mathlib.Core.Bool.{Bool, true}
use native.Mathlib.Omega.{arith}
use borrow.Author.Tests.{le-leb}
use lib.ListN.{length}
use lib.Dec.{eqb}
use Rattle.base.specs.Outcome.{Outcome, refused, answered, outcome, map_outcome}
use Rattle.base.specs.Places.{place_from}
use Rattle.base.specs.declared.Place.{Place}
use Rattle.base.proofs.ChoiceLaws.{cond_cases}
use Rattle.usn_record.specs.Record.{listed, is_answered}
use Rattle.usn_record.specs.declared.UsnRecord.{UsnRecord}
use Rattle.base.specs.declared.refusal.Refusal.{Refusal}
use Rattle.usn_record.proofs.NameLaws.{listed-name, listed-whole}
use Rattle.entry_slots.specs.Names.{lengths, inside}
use Rattle.entry_slots.specs.Table.{addition}
use Rattle.entry_slots.specs.declared.NamePlace.{NamePlace}
use Rattle.additions.specs.Entries.{has_reason, from_journal, entry_from, entry_at, entry_or, backward, forward}
use Rattle.additions.specs.declared.entries.RecordEntry.{RecordEntry}

-- a reason is asked for by a division
pub reason-tested : (bit reasons : ℕ) → eqb (reasons / bit % 2) 1 ≡ has_reason bit reasons
unfolding has_reason
reason-tested bit reasons = refl

-- an entry is known where a record is listed
answered-mapped : {A B : Type 0} (f : A → B) (x : Outcome A) → is_answered x ≡ is_answered (map_outcome f x)
answered-mapped f (refused n) = refl
answered-mapped f (answered a) = refl

pub record-tested : (s : List ℕ) (o : ℕ) {r : Bool} → r ≡ is_answered (listed s o) → r ≡ is_answered (entry_at s o)
record-tested s o e = e ∙ answered-mapped (entry_from o) (listed s o)

module _ (s : List ℕ) (o : ℕ) {p : Result UsnRecord Refusal} (e : outcome p ≡ listed s o) where
  module _ {r : UsnRecord} (g : p ≡ Ok r) where
    is : listed s o ≡ answered r
    is = sym e ∙ ap outcome g

    -- the name's place does not pass the journal
    pub name-ends : o + r.filename.offset + r.filename.length ≤ length s
    name-ends = omega (arith, listed-name s o (sym is), listed-whole s o (sym is))

    pub entry-said : {name : NamePlace} → name ≡ from_journal (place_from o r.filename)
        → ◌≡◌ {A = RecordEntry}
        (record {
          key = record { entry = r.mft_entry; sequence = r.mft_sequence };
          info = record { parent = record { entry = r.parent_mft_entry; sequence = r.parent_mft_sequence }; name = name };
          reason = r.reason;
        })
        (entry_or (entry_at s o))
    unfolding entry_from
    entry-said n = rw (is, n)

-- the name of an entry that is a record's is inside, whatever the image
from-inside : (n m o : ℕ) (p : Place) → o + p.offset + p.length ≤ n → inside (lengths n m) (from_journal (place_from o p)) ≡ true
unfolding inside
from-inside n m o p h =
    cond_cases (λ (q : Place). inside (lengths n m) (from_journal q) ≡ true) (eqb p.length 0) (λ _. le-leb 0 n (omega arith)) (λ _. le-leb _ _ h)

pub entry-inside : (s : List ℕ) (m o : ℕ) {e : RecordEntry} → entry_at s o ≡ answered e → inside (lengths (length s) m) e.info.name ≡ true
unfolding entry_from
entry-inside s m o {e} h = go (listed s o) refl h
  where
    go : (x : Outcome UsnRecord) → listed s o ≡ x → map_outcome (entry_from o) x ≡ answered e → inside (lengths (length s) m) e.info.name ≡ true
    go (refused k) q y = let z : ◌≡◌ {A = ℕ} 0 1 = cc in absurd (omega arith)
    go (answered r) q y =
        let f : entry_from o r ≡ e = cc in
        rw (← f) (from-inside (length s) m o r.filename (omega (arith, listed-name s o (sym q), listed-whole s o (sym q))))

-- what code puts together of an entry is what it adds
pub added-backward : {e e' : RecordEntry} {b : Bool} → e ≡ e' → b ≡ (backward e).replace → addition e.key e.info b ≡ backward e'
added-backward p q = cc

pub added-forward : {e e' : RecordEntry} {b : Bool} → e ≡ e' → b ≡ (forward e).replace → addition e.key e.info b ≡ forward e'
added-forward p q = cc
