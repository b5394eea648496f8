-- Paths as words.
use Rattle.std.specs.Prelude.{ℕ, List, [], ◌∷◌}
use Rattle.entry_slots.specs.declared.EntryKey.{EntryKey}
use Rattle.chain.specs.declared.ChainEnd.{ChainEnd}
use Rattle.chain.specs.declared.ChainEnd.TheVariants.{Root, Unknown, Unresolved}
use Rattle.chain.specs.declared.ResolvedPath.{ResolvedPath}

-- an end as numbers: 0 is the root, 1 an unknown key, 2 an unresolved one, and the key follows
abbrev pub end_words : ChainEnd → List ℕ
end_words Root = 0 ∷ 0 ∷ 0 ∷ []
end_words (Unknown k) = 1 ∷ k.entry ∷ k.sequence ∷ []
end_words (Unresolved k) = 2 ∷ k.entry ∷ k.sequence ∷ []

-- the words of a path: its names and its end
abbrev pub resolved_words : ResolvedPath → List ℕ
resolved_words p = p.names ∷ end_words p.end
