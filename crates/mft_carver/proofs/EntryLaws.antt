-- One entry: the ways out of its tests, each with what they say. Assumes nothing.
use Prim.Native.Nat.{ℕ, ◌+◌, ◌<◌}
use mathlib.Core.Path.{◌≡◌}
use mathlib.Core.List.{List}
use mathlib.Core.Bool.{true, cond}
use native.Mathlib.Omega.{arith}
use lib.ListN.{length, get_or}
use borrow.Author.Tests.{ne_eqb}
use Rattle.base.specs.Places.{place_from}
use Rattle.usn_record.specs.Bytes.{le_at}
use Rattle.mft_carver.specs.declared.Settings.{Settings}
use Rattle.mft_attributes.specs.Attributes.{filename_in}
use Rattle.mft_sectors.specs.SectorEnds.{array_of, sound, home, restored_by}
use Rattle.mft_carver.specs.Entry.{entry_header_of, bad_header, rejected, by_name, judged}
use Rattle.mft_attributes.specs.declared.filename.Filename.{Filename}
use Rattle.std.specs.Prelude.{Option, Some}
use Rattle.mft_sectors.proofs.SectorLaws.{read-body, restored-none}
use Rattle.mft_attributes.proofs.LieLaws.{found-lies}

-- a name that was found, as it is placed in the image
pub name-from : (n : ℕ) (e : List ℕ) (a o : ℕ) {x : Option Filename} {f : Filename} → x ≡ filename_in n e a → x ≡ Some f
    → place_from o f.place ≡ record { offset = o + f.place.offset; length = f.place.length }
name-from n e a o {f = f} g h = let l = found-lies n e a g h in simp (ne_eqb f.place.length 0 (λ z. omega (arith, l.some)))

-- the restored entry has the entry's header
pub header-restored : (a : ℕ) (e : List ℕ) → entry_header_of (restored_by a e) ≡ entry_header_of e
header-restored a e = cc (read-body a e 2 16 (omega arith), read-body a e 2 20 (omega arith), read-body a e 2 22 (omega arith), read-body a e 4 44 (omega arith))

-- an entry with a sound array whose stored and true sector ends agree, so that every byte is what its home holds, is judged as it is stored
pub judged-as-stored : (st : Settings) (o : ℕ) (e : List ℕ) → sound e ≡ true
    → ((i : ℕ) → i < length e → get_or e (home (array_of e).offset i) 0 ≡ get_or e i 0)
    → judged st o e ≡ cond (bad_header st (entry_header_of e)) (rejected o) (by_name o (entry_header_of e) (filename_in st.walked e (le_at 2 e 20)))
unfolding judged
judged-as-stored st o e h m = simp (h, restored-none (array_of e).offset e m)
