-- What the program promises where it says that all is written: the forward table is the one after every part of the listing, and the writer has got the text of
-- every part.
use Rattle.std.specs.Prelude.{ℕ, ◌*◌, ◌≡◌, List, take, Result, OnOk, ⊤}
use Rattle.base.specs.Lent.{Lent, MutLent, before, before_mut, after}
use Rattle.base.specs.Lists.{flatten}
use Rattle.rewind.specs.declared.Rewind.{Rewind}
use Rattle.usn_lines.specs.Listing.{standing, after_all, all_parts, list_of, begins, listing_from}

-- the loop over the parts of the first so many records of a list
abbrev pub WritePromise : {E : Type 0} → Lent → Lent → ℕ → Rewind → MutLent → Result ⊤ E → Type 0
WritePromise journal list count start forward r =
    OnOk r (after forward ≡ (after_all (before journal) (take (2 * count) (before list)) (standing (before_mut forward) start)).words)

-- the text of these parts, one behind the other
abbrev pub parts_text : Lent → Lent → ℕ → Rewind → MutLent → List ℕ
parts_text journal list count start forward =
    flatten (λ l. l) (all_parts (before journal) (take (2 * count) (before list)) (standing (before_mut forward) start))

-- the listing of a journal: all records that the scan lists, from the start of their rewind
abbrev pub ListPromise : {E : Type 0} → Lent → MutLent → MutLent → Result ⊤ E → Type 0
ListPromise journal first forward r =
    OnOk r (after forward ≡ (after_all (before journal) (list_of (before journal)) (begins (before journal) (list_of (before journal)) (before_mut first) (before_mut forward))).words)

-- its text, with the words of two tables
abbrev pub listing_text : Lent → MutLent → MutLent → List ℕ
listing_text journal first forward =
    listing_from (before journal) (list_of (before journal)) (begins (before journal) (list_of (before journal)) (before_mut first) (before_mut forward))
