-- What the calls promise as C calls. Each record says it of lists: what the lent slices hold before, and, with ', after, where the call comes to o. Carving and
-- decoding leave an answer with a list, `Lists`, by their outcome and words.
use Rattle.std.specs.Prelude.{ℕ, ◌≡◌, List}
use Rattle.base.specs.Lent.{Lent, MutLent, before, before_mut, after}
use Rattle.base.specs.Lists.{list_after}
use Rattle.base.specs.Outcome.{Outcome}
use Rattle.base.specs.Words.{number, count_words, ListPromise}
use Rattle.mft_carver.specs.Carve.{stats_words}
use Rattle.entry_slots.specs.declared.EntryKey.{EntryKey}
use Rattle.entry_slots.specs.declared.NamePlace.{NamePlace}
use Rattle.chain.specs.Chain.{Chain, resolved}
use Rattle.chain.specs.Tracing.{chain_after}
use Rattle.path_text.specs.Text.{place_text, place_length, path_text}
use Rattle.path.specs.Written.{written_path}
use Rattle.chain.specs.Words.{resolved_words}
use Rattle.path.specs.Words.{written_words}
use Rattle.volume_ffi.specs.Image.{carve_call, carved_words}
use Rattle.volume_ffi.specs.Names.{decode_call, decoded_bytes}
use Rattle.volume_ffi.specs.Path.{resolve_call, chain_call, place_call}

-- carving an image: the list is that of the entries, and the words are the counters
abbrev pub CarveCallPromise : Lent → MutLent → MutLent → ℕ → Type 0
CarveCallPromise image list out r = ListPromise (carved_words (before image)) stats_words (carve_call (before image) (before_mut list) (before_mut out)) list out r

-- decoding a name: the list is its text, and the word is the text's length
abbrev pub DecodeCallPromise : Lent → MutLent → MutLent → ℕ → Type 0
DecodeCallPromise bytes text out r = ListPromise (decoded_bytes (before bytes)) count_words (decode_call (before bytes) (before_mut text) (before_mut out)) text out r

-- the name at a place, likewise
abbrev pub PlaceCallPromise : Lent → Lent → NamePlace → MutLent → MutLent → ℕ → Type 0
PlaceCallPromise journal image place text out r =
    let o = place_call (before journal) (before image) place (before_mut text) (before_mut out) in
    ListPromise (place_text (before journal) (before image)) (λ p. count_words (place_length (before journal) (before image) p)) o text out r

-- a chain: its number, the list of its places, and the words of its answer
pub record Traces (words : Chain → List ℕ) (o : Outcome Chain) (list out : List ℕ) (r : ℕ) (list' out' : List ℕ) : Type 0 where
  pub answer : r ≡ number o
  pub places : list' ≡ chain_after o list
  pub row : out' ≡ list_after words o out

abbrev pub ChainCallPromise : Lent → Lent → Lent → ℕ → EntryKey → MutLent → MutLent → ℕ → Type 0
ChainCallPromise journal image slots used key chain out r =
    let o = chain_call (before journal) (before image) (before slots) used key (before_mut out) in
    Traces (λ c. resolved_words (resolved c)) o (before_mut chain) (before_mut out) r (after chain) (after out)

-- a path: its number, the list of its places, its text, and the words of its answer
pub record Resolves (bytes words : Chain → List ℕ) (o : Outcome Chain) (list text out : List ℕ) (r : ℕ) (list' text' out' : List ℕ) : Type 0 where
  pub answer : r ≡ number o
  pub places : list' ≡ chain_after o list
  pub written : text' ≡ list_after bytes o text
  pub row : out' ≡ list_after words o out

abbrev pub ResolvePromise : Lent → Lent → Lent → ℕ → EntryKey → MutLent → MutLent → MutLent → ℕ → Type 0
ResolvePromise journal image slots used key chain text out r =
    let o = resolve_call (before journal) (before image) (before slots) used key (before_mut text) (before_mut out) in
    Resolves (path_text (before journal) (before image)) (λ c. written_words (written_path (before journal) (before image) c)) o (before_mut chain) (before_mut text) (before_mut out) r (after chain) (after text) (after out)
