-- The attributes of an MFT entry, one after the other: where the walk ends, and which attribute gives a name.
use Rattle.std.specs.Prelude.{ℕ, ◌+◌, ◌*◌, List, [], ◌∷◌, Bool, true, cond, ◌&&◌, ◌||◌, length, ltb, leb, eqb, Option, None}
use Rattle.base.specs.Walk.{Visit, stop, go, walk}
use Rattle.usn_record.specs.Bytes.{le_at}
use Rattle.usn_record.specs.Fields.{reference_of}
use Rattle.mft_attributes.specs.Filename.{Attribute, other, named, keep_all}
use Rattle.mft_attributes.specs.declared.filename.Filename.{Filename}

-- the type of a $FILE_NAME attribute, and the mark after the last attribute
abbrev pub file_name : ℕ
file_name = 0x30

abbrev pub end_marker : ℕ
end_marker = 0xFFFFFFFF

-- an attribute's header
pub record AttributeHeader : Type 0 where
  pub type : ℕ
  pub length : ℕ
  pub non_resident : ℕ
  pub content_size : ℕ
  -- counted from the attribute
  pub content_offset : ℕ

-- that of the attribute at a of an entry
abbrev pub attribute_header_at : List ℕ → ℕ → AttributeHeader
attribute_header_at e a =
    record {
      type = le_at 4 e a;
      length = le_at 4 e (a + 4);
      non_resident = le_at 1 e (a + 8);
      content_size = le_at 4 e (a + 16);
      content_offset = le_at 2 e (a + 20);
    }

-- the content of a $FILE_NAME attribute, whose name follows after 66 bytes
pub record Content : Type 0 where
  -- the file reference of the parent directory
  pub parent : ℕ
  -- the name's length in units
  pub units : ℕ
  pub namespace : ℕ

abbrev pub fixed : ℕ
fixed = 66

-- that at c of an entry
abbrev pub content_at : List ℕ → ℕ → Content
content_at e c = record { parent = le_at 8 e c; units = le_at 1 e (c + 64); namespace = le_at 1 e (c + 65) }

-- a $FILE_NAME attribute at a, in an entry with this end, that is resident (a flag past the entry is not) and has all of its content
abbrev pub is_filename : ℕ → ℕ → AttributeHeader → Bool
is_filename end a h = eqb h.type file_name && ltb (a + 8) end && eqb h.non_resident 0 && leb fixed h.content_size

-- the name of the content at c
abbrev pub content_filename : ℕ → Content → Filename
content_filename c x =
    record {
      place = record { offset = c + fixed; length = 2 * x.units };
      parent = reference_of true x.parent;
      namespace = x.namespace;
    }

-- what content at c gives: a name, if it has units and ends inside both the entry and the attribute
unfoldable pub given : ℕ → ℕ → ℕ → Content → Attribute
given entry_end attribute_end c x =
    let name_end = c + fixed + 2 * x.units in
    cond (ltb 0 x.units && leb name_end entry_end && leb name_end attribute_end) (named (content_filename c x)) other

-- the attribute at a
unfoldable pub attribute_at : List ℕ → ℕ → AttributeHeader → Attribute
attribute_at e a h =
    let c = a + h.content_offset in
    cond (is_filename (length e) a h) (given (length e) (a + h.length) c (content_at e c)) other

-- a visit of the attribute at a: the walk ends with fewer than 8 bytes left, at the mark, and at a length below 8 or past the entry
unfoldable pub attribute_visit : List ℕ → ℕ → Visit Attribute
attribute_visit e a =
    let h = attribute_header_at e a in
    cond (ltb (length e) (a + 8)) stop
    (cond (eqb h.type end_marker) stop
    (cond (ltb h.length 8 || ltb (length e) (a + h.length)) stop
    (go (attribute_at e a h ∷ []) (a + h.length))))

-- the first attributes of an entry, from a on, at most n of them
abbrev pub attributes_in : ℕ → List ℕ → ℕ → List Attribute
attributes_in n e a = walk (attribute_visit e) n a

-- the name that is kept of these
unfoldable pub filename_in : ℕ → List ℕ → ℕ → Option Filename
filename_in n e a = keep_all None (attributes_in n e a)
