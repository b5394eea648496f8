-- The text of a path: its end, and then a backslash and the name for each place of the chain.
use Rattle.std.specs.Prelude.{ℕ, List, [], ◌∷◌, ◌++◌, length}
use Rattle.base.specs.Lists.{flatten}
use Rattle.mft_sectors.specs.Stored.{image_bytes}
use Rattle.utf16.specs.Text.{name_text}
use Rattle.utf16.specs.Decimal.{decimal}
use Rattle.entry_slots.specs.Names.{source_of}
use Rattle.entry_slots.specs.declared.EntryKey.{EntryKey}
use Rattle.entry_slots.specs.declared.NamePlace.{NamePlace}
use Rattle.chain.specs.declared.ChainEnd.{ChainEnd}
use Rattle.chain.specs.declared.ChainEnd.TheVariants.{Root, Unknown, Unresolved}
use Rattle.chain.specs.Chain.{Chain}

-- UNKNOWN( and UNRESOLVED(
abbrev pub unknown_word : List ℕ
unknown_word = 0x55 ∷ 0x4E ∷ 0x4B ∷ 0x4E ∷ 0x4F ∷ 0x57 ∷ 0x4E ∷ 0x28 ∷ []

abbrev pub unresolved_word : List ℕ
unresolved_word = 0x55 ∷ 0x4E ∷ 0x52 ∷ 0x45 ∷ 0x53 ∷ 0x4F ∷ 0x4C ∷ 0x56 ∷ 0x45 ∷ 0x44 ∷ 0x28 ∷ []

-- a key in a marker: its entry, a colon, its sequence and a closing bracket
unfoldable pub key_text : EntryKey → List ℕ
key_text k = decimal k.entry ++ ((0x3A ∷ []) ++ (decimal k.sequence ++ (0x29 ∷ [])))

-- a full stop for the root, a marker for any other end
unfoldable pub end_text : ChainEnd → List ℕ
end_text Root = 0x2E ∷ []
end_text (Unknown k) = unknown_word ++ key_text k
end_text (Unresolved k) = unresolved_word ++ key_text k

-- the bytes of an MFT entry
abbrev pub entry_size : ℕ
entry_size = 1024

-- the text of the name of n bytes at an offset of the image: of the restored entry where it lies in one, else of the bytes as they are
unfoldable pub image_text : List ℕ → ℕ → ℕ → List ℕ
image_text image offset n = name_text (image_bytes entry_size image (record { offset = offset; length = n })) 0 n

-- the text of the name at a place of journal or image
unfoldable pub place_text : List ℕ → List ℕ → NamePlace → List ℕ
place_text journal image p = source_of (name_text journal p.offset p.length) (image_text image p.offset p.length) p.source

abbrev pub place_length : List ℕ → List ℕ → NamePlace → ℕ
place_length journal image p = length (place_text journal image p)

-- a backslash and the name
unfoldable pub step_text : List ℕ → List ℕ → NamePlace → List ℕ
step_text journal image p = (0x5C ∷ []) ++ place_text journal image p

-- the most bytes that it takes within the domain: the backslash, and three for each of 536870912 units
abbrev pub step_most : ℕ
step_most = 1610612737

abbrev pub names_text : List ℕ → List ℕ → List NamePlace → List ℕ
names_text journal image ps = flatten (step_text journal image) ps

-- the whole path
unfoldable pub path_text : List ℕ → List ℕ → Chain → List ℕ
path_text journal image c = end_text c.end ++ names_text journal image c.places
