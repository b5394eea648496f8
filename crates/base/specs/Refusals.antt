-- The numbers of the refusals, and the sizes up to which the calls answer.
use Rattle.std.specs.Prelude.{ℕ}
use Rattle.base.specs.declared.refusal.Refusal.{Refusal}
use Rattle.base.specs.declared.refusal.Refusal.TheVariants.{AboveDomain, ShortSlice, BadLength, LengthPastSlice, ListFull, TableFull, NameOutside, TextFull, BadState, TooManyBytes, BadBuffer, NotARecord}

-- a slice, an image or a stream is longer than is read
abbrev pub above_domain : ℕ
above_domain = 1

-- a slice is shorter than a record's fixed part
abbrev pub short_slice : ℕ
short_slice = 2

-- a record's length field is below its fixed part or above `max_record`
abbrev pub bad_length : ℕ
bad_length = 3

-- a record's length passes the slice
abbrev pub length_past_slice : ℕ
length_past_slice = 4

-- there are more results than the lent list takes
abbrev pub list_full : ℕ
list_full = 5

-- the used slots of a table and the different keys to be added are more than its slots
abbrev pub table_full : ℕ
table_full = 6

-- a name's place lies outside its slice
abbrev pub name_outside : ℕ
name_outside = 7

-- the text buffer is too small
abbrev pub text_full : ℕ
text_full = 8

-- the numbers of a state cannot be those of one
abbrev pub bad_state : ℕ
bad_state = 9

-- more bytes are given than are wanted
abbrev pub too_many_bytes : ℕ
too_many_bytes = 10

-- a buffer has another length than it must
abbrev pub bad_buffer : ℕ
bad_buffer = 11

-- a listed offset has no version 2 or 3 record that its parser accepts
abbrev pub not_a_record : ℕ
not_a_record = 12

-- the number of a refusal
abbrev pub number_of : Refusal → ℕ
number_of AboveDomain = above_domain
number_of ShortSlice = short_slice
number_of BadLength = bad_length
number_of LengthPastSlice = length_past_slice
number_of ListFull = list_full
number_of TableFull = table_full
number_of NameOutside = name_outside
number_of TextFull = text_full
number_of BadState = bad_state
number_of TooManyBytes = too_many_bytes
number_of BadBuffer = bad_buffer
number_of NotARecord = not_a_record

-- the most bytes of an extract or an image
abbrev pub domain : ℕ
domain = 1073741824
