-- The script of a dihedral group, and what a run reads.
use Rattle.std.specs.Prelude.{ℕ, List, ◌++◌, codes, replicate, Option, Some, None}
use Rattle.settings.specs.declared.Settings.{Settings}

-- the dihedral group with 2 * k elements, and queries of it; 98 is the byte `b`
abbrev pub made_script : ℕ → List ℕ
made_script k = codes "monoid ab\nrel aa 1\nrel "
    ++ (replicate k 98 ++ codes " 1\nrel abab 1\nindex\nequal ab ba\nnormal aba\nclasses 3\n")

-- the made script, where one is to be made, else what the source holds
abbrev pub made_or : Option ℕ → Option (List ℕ) → Option (List ℕ)
made_or None left = left
made_or (Some k) left = Some (made_script k)

-- what a run under these settings reads, with this left in the source
abbrev pub input_of : Settings → Option (List ℕ) → Option (List ℕ)
input_of settings left = made_or settings.make left
