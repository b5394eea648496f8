-- Carving, decoding and paths are refused for the domain where what they are to read is above it. Assumes nothing.
use Prim.Native.Nat.{ℕ, ◌/◌}
use mathlib.Core.Path.{refl}
use mathlib.Core.List.{List}
use mathlib.Core.Bool.{not}
use lib.ListN.{length}
use lib.Dec.{ltb}
use Rattle.base.specs.Refusals.{domain}
use Rattle.base.proofs.WordLaws.{Domain, domain-answered, domain-refused, domain-choice, domain-first}
use Rattle.mft_carver.specs.declared.Settings.{Settings}
use Rattle.mft_carver.specs.Carve.{entry_stride, entries_in, carving}
use Rattle.utf16.specs.Decoding.{text_of, decoding as decoding_name}
use Rattle.entry_slots.specs.Names.{lengths_of, inside, all_inside}
use Rattle.entry_slots.specs.Slots.{slots_in, names_in}
use Rattle.entry_slots.specs.Table.{Table}
use Rattle.entry_slots.specs.declared.EntryKey.{EntryKey}
use Rattle.entry_slots.specs.declared.NamePlace.{NamePlace}
use Rattle.chain.specs.Tracing.{tracing}
use Rattle.path_text.specs.Decoding.{placing, place_decoding}
use Rattle.path_text.specs.Text.{place_text, path_text}
use Rattle.path.specs.Written.{tracing_with_text}
use Rattle.volume_answers.specs.Domain.{either_above}
use Rattle.volume_answers.proofs.DomainLaws.{either-domain, text-domain}

pub carving-domain : (st : Settings) (s : List ℕ) (words : ℕ) → Domain (ltb domain (length s)) (carving st s words)
unfolding carving
carving-domain st s words =
    domain-first (ltb domain (length s)) (domain-choice (ltb (words / entry_stride) (length (entries_in st s))) (domain-refused 5 refl) (domain-answered _))

pub name-domain : (s : List ℕ) (room : ℕ) → Domain (ltb domain (length s)) (decoding_name s room)
unfolding decoding_name
name-domain s room = domain-first (ltb domain (length s)) (domain-choice (ltb room (length (text_of s))) (domain-refused 8 refl) (domain-answered _))

-- over a journal and an image
module _ (journal image : List ℕ) where
  pub tracing-domain : (t : Table) (depth : ℕ) (k : EntryKey) → Domain (either_above journal image) (tracing (lengths_of journal image) t depth k)
  unfolding tracing
  tracing-domain t depth k =
      either-domain (lengths_of journal image)
      (domain-choice (ltb (slots_in t.words) t.used) (domain-refused 9 refl)
      (domain-choice (not (all_inside (lengths_of journal image) (names_in t.words t.used))) (domain-refused 7 refl) (domain-answered _)))

  pub traced-text-domain : (t : Table) (depth : ℕ) (k : EntryKey) (room : ℕ) → Domain (either_above journal image) (tracing_with_text journal image t depth k room)
  traced-text-domain t depth k room = text-domain (path_text journal image) room (tracing (lengths_of journal image) t depth k) (tracing-domain t depth k)

  pub place-domain : (p : NamePlace) (room : ℕ) → Domain (either_above journal image) (place_decoding journal image p room)
  unfolding placing
  place-domain p room =
      text-domain (place_text journal image) room (placing (lengths_of journal image) p)
      (either-domain (lengths_of journal image) (domain-choice (not (inside (lengths_of journal image) p)) (domain-refused 7 refl) (domain-answered _)))
