-- The outcomes that need no text: they depend on the table and the lengths of journal and image, and never on their bytes.
use Rattle.std.specs.Prelude.{ℕ, List, cond, not, length, ltb, leb}
use Rattle.base.specs.Outcome.{Outcome, refused, answered}
use Rattle.base.specs.Lists.{overwrite}
use Rattle.base.specs.Refusals.{above_domain, name_outside, bad_state, domain}
use Rattle.entry_slots.specs.Names.{Lengths, all_inside}
use Rattle.entry_slots.specs.Slots.{slots_in, names_in}
use Rattle.entry_slots.specs.Table.{Table}
use Rattle.entry_slots.specs.declared.EntryKey.{EntryKey}
use Rattle.entry_slots.specs.declared.NamePlace.{NamePlace}
use Rattle.chain.specs.Chain.{Chain, chain_of, chain_words}

-- 1: journal or image is above the domain; else what comes after
unfoldable pub in_domain : {A : Type 0} → Lengths → Outcome A → Outcome A
in_domain ls o = cond (ltb domain ls.journal) (refused above_domain) (cond (ltb domain ls.image) (refused above_domain) o)

-- the chain of a key: 1; 9: the used slots are above the slots; 7: the name's place of some used slot is outside its slice
unfoldable pub tracing : Lengths → Table → ℕ → EntryKey → Outcome Chain
tracing ls t depth k =
    in_domain ls
    (cond (ltb (slots_in t.words) t.used) (refused bad_state)
    (cond (not (all_inside ls (names_in t.words t.used))) (refused name_outside)
    (answered (chain_of t depth k))))

-- the number that it is refused with, whatever the key, and 0 where there is none
unfoldable pub path_refusal : Lengths → Table → ℕ
path_refusal ls t =
    cond (ltb domain ls.journal) above_domain
    (cond (ltb domain ls.image) above_domain
    (cond (ltb (slots_in t.words) t.used) bad_state
    (cond (not (all_inside ls (names_in t.words t.used))) name_outside 0)))

-- the words with the chain's places in front, where there is room for all of them
unfoldable pub with_places : List ℕ → List NamePlace → List ℕ
with_places l ps = cond (leb (length (chain_words ps)) (length l)) (overwrite l (chain_words ps)) l

-- what the lent chain list holds after a call; a refusal writes nothing
abbrev pub chain_after : Outcome Chain → List ℕ → List ℕ
chain_after (refused n) l = l
chain_after (answered c) l = with_places l c.places
