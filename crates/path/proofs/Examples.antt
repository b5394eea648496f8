-- Paths of small tables, computed: the root, an unknown key, a folder that is its own parent, and text that just fits. Assumes nothing.
use mathlib.Core.Path.{◌≡◌, refl}
use mathlib.Core.List.{[], ◌∷◌, ◌++◌}
use Rattle.base.specs.Lists.{every, rows}
use Rattle.base.specs.Refusals.{text_full}
use Rattle.usn_record.specs.Bytes.{le, le_at}
use Rattle.utf16.specs.Utf16.{alone, code_points, units_at}
use Rattle.utf16.specs.Utf8.{utf8}
use Rattle.utf16.specs.Text.{decoded}
use Rattle.utf16.specs.Decimal.{digits}
use Rattle.entry_slots.specs.Names.{inside}
use Rattle.entry_slots.specs.Slots.{same_key, find_from}
use Rattle.chain.specs.Chain.{is_root, chain}
use Rattle.chain.specs.Tracing.{in_domain, tracing}
use Rattle.path_text.specs.Text.{unknown_word, unresolved_word, key_text, end_text, place_text, step_text, path_text}
use Rattle.path.specs.Sample.{key, nested, nested_table, last_key, loop_table, path_says, times_a}

-- 9:1 as its own parent, named a: UNRESOLVED(9:1) and 257 times \a
pub loops : path_says loop_table (key 9 1) 529 ≡ 0 ∷ (unresolved_word ++ (0x39 ∷ 0x3A ∷ 0x31 ∷ 0x29 ∷ times_a 257))
unfolding path_says times_a tracing in_domain chain is_root same_key find_from rows inside every path_text end_text key_text step_text place_text digits decoded code_points alone utf8 units_at le_at le
loops = refl

-- three names under 5:5, with just enough room for their text, and with one byte less
pub three-names : path_says (nested_table 3) (last_key 3) 7 ≡ 0 ∷ 0x2E ∷ times_a 3
unfolding path_says times_a nested tracing in_domain chain is_root same_key find_from rows inside every path_text end_text key_text step_text place_text digits decoded code_points alone utf8 units_at le_at le
three-names = refl

pub no_room : path_says (nested_table 3) (last_key 3) 6 ≡ text_full ∷ []
unfolding path_says times_a nested tracing in_domain chain is_root same_key find_from rows inside every path_text end_text key_text step_text place_text digits decoded code_points alone utf8 units_at le_at le
no_room = refl

-- the root, of any sequence, and with nothing in the table
pub root-itself : path_says (nested_table 0) (key 5 77) 1 ≡ 0 ∷ 0x2E ∷ []
unfolding path_says times_a nested tracing in_domain chain is_root same_key find_from rows inside every path_text end_text key_text step_text place_text digits decoded code_points alone utf8 units_at le_at le
root-itself = refl

-- a key whose sequence the table does not have: UNKNOWN(6:12)
pub unknown-key : path_says (nested_table 1) (key 6 12) 13 ≡ 0 ∷ (unknown_word ++ (0x36 ∷ 0x3A ∷ 0x31 ∷ 0x32 ∷ 0x29 ∷ []))
unfolding path_says times_a nested tracing in_domain chain is_root same_key find_from rows inside every path_text end_text key_text step_text place_text digits decoded code_points alone utf8 units_at le_at le
unknown-key = refl

-- a slot after the used ones is not looked up
pub unused-slot : path_says (record { words = nested 5 2; used = 1 }) (key 7 5) 12 ≡ 0 ∷ (unknown_word ++ (0x37 ∷ 0x3A ∷ 0x35 ∷ 0x29 ∷ []))
unfolding path_says times_a nested tracing in_domain chain is_root same_key find_from rows inside every path_text end_text key_text step_text place_text digits decoded code_points alone utf8 units_at le_at le
unused-slot = refl
