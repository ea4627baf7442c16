-- The tree of the states, and the tables that are read from it (Aho and Corasick 1975).
use Rattle.std.specs.Prelude.{◌≡◌, ◌≢◌, ℕ, ◌-◌, ◌<◌, ◌≤◌, ◌⊎◌, List, [], ◌∷◌, ◌++◌, length, map, min, take, drop, slice_index_or, slice_set, Contains, Option, None, Some, unwrap_or}
use Rattle.theory.specs.Word.{Word}
use Rattle.theory.specs.Graph.{Graph, IsComplete, target}
use Rattle.cells.specs.Rows.{AreRows, with_entry, with_node}
use Rattle.rewriting.specs.States.{ArePrefixes, AreStates, EndsAt, HasEnd, IsLongest}
use Rattle.rewriting.specs.declared.tries.Prefix.{Prefix}
use Rattle.rewriting.specs.declared.tries.Trie.{Trie}
use Rattle.rewriting.specs.declared.links.Tables.{Tables}

-- the left side of the rule at a place
abbrev pub left_at : List (Word × Word) → ℕ → Word
left_at rules number = (slice_index_or rules number ([], [])).0

-- the number of letters of one of the first left sides, so many, or 0 where these are none
abbrev pub IsLeftLengthTo : List (Word × Word) → ℕ → ℕ → Type 0
IsLeftLengthTo rules count n = ((count ≡ 0) × (n ≡ 0))
    ⊎ ((place : ℕ) × (place < count) × (length (left_at rules place) ≡ n))

-- the number of letters of a left side, or 0 where there is no rule
abbrev pub IsLeftLength : List (Word × Word) → ℕ → Type 0
IsLeftLength rules = IsLeftLengthTo rules (length rules)

-- the word of a prefix: so many letters of the left side of a rule
abbrev pub state_of : List (Word × Word) → Prefix → Word
state_of rules p = take p.count (left_at rules p.rule)

-- the words of prefixes
abbrev pub words_of : List (Word × Word) → List Prefix → List Word
words_of rules prefixes = map (state_of rules) prefixes

-- the word of a state and a letter
abbrev pub longer : List Word → ℕ → ℕ → Word
longer states node letter = slice_index_or states node [] ++ letter ∷ []

-- where the state and the letter make a state, and which
abbrev pub IsChild : List Word → Word → Option ℕ → Type 0
IsChild states u None = Contains states u → ⊥
IsChild states u (Some to) = (to < length states) × (slice_index_or states to [] ≡ u)

-- where the state and the letter make a left side, and of which rule
abbrev pub IsLeft : List (Word × Word) → Word → Option ℕ → Type 0
IsLeft rules u None = Unit {0}
IsLeft rules u (Some number) = (number < length rules) × (left_at rules number ≡ u)

-- some letters of a left side, and not all
pub record IsProperFront (rules : List (Word × Word)) (u : Word) : Type 0 where
  pub number : ℕ
  pub count : ℕ
  pub within : number < length rules
  pub proper : count < length (left_at rules number)
  pub is : u ≡ take count (left_at rules number)

-- the empty word, or a proper prefix of a left side
abbrev pub IsStateWord : List (Word × Word) → Word → Type 0
IsStateWord rules u = (u ≡ []) ⊎ IsProperFront rules u

-- a tree of words over so many letters: its states, and for each state and letter the state that
-- they make, and the rule whose left side they make
pub record Tree : Type 0 where
  pub letters : ℕ
  pub states : List Word
  pub children : Graph
  pub lefts : Graph

-- the states are distinct, and there is a row for each
pub record IsTrie (rules : List (Word × Word)) (t : Tree) : Type 0 where
  pub prefixes : ArePrefixes t.states
  pub distinct : (i j : ℕ) → i < length t.states → j < length t.states
      → slice_index_or t.states i [] ≡ slice_index_or t.states j [] → i ≡ j
  pub only : (n : ℕ) → n < length t.states → IsStateWord rules (slice_index_or t.states n [])
  pub child_rows : AreRows (length t.states) t.letters t.children
  pub left_rows : AreRows (length t.states) t.letters t.lefts
  pub child : (n a : ℕ) → n < length t.states → a < t.letters
      → IsChild t.states (longer t.states n a) (target t.children n a)
  pub left : (n a : ℕ) → n < length t.states → a < t.letters
      → IsLeft rules (longer t.states n a) (target t.lefts n a)

-- the left side of a rule is marked at its last letter
pub record IsMarked (t : Tree) (left : Word) : Type 0 where
  pub node : ℕ
  pub letter : ℕ
  pub number : ℕ
  pub node_within : node < length t.states
  pub letter_within : letter < t.letters
  pub is : left ≡ longer t.states node letter
  pub marked : target t.lefts node letter ≡ Some number

-- a tree of words of at most so many letters, the shorter ones first
pub record IsLevelTree (rules : List (Word × Word)) (most : ℕ) (t : Tree) : Type 0 where
  pub trie : IsTrie rules t
  pub rises : (i j : ℕ) → i ≤ j → j < length t.states
      → length (slice_index_or t.states i []) ≤ length (slice_index_or t.states j [])
  pub few : (n : ℕ) → n < length t.states → length (slice_index_or t.states n []) ≤ most

-- so many letters of a left side, or all but the last, lead to the node; it is marked if it has no
-- more
pub record IsReadTo (t : Tree) (left : Word) (count node : ℕ) : Type 0 where
  pub within : node < length t.states
  pub is : slice_index_or t.states node [] ≡ take (min count (length left - 1)) left
  pub marked : length left ≤ count → IsMarked t left

-- the same of the first left sides, so many, and a node for each
abbrev pub AreReadTo : List (Word × Word) → ℕ → ℕ → List ℕ → Tree → Type 0
AreReadTo rules number count nodes t = (n : ℕ) → n < number → n < length rules
    → IsReadTo t (left_at rules n) count (slice_index_or nodes n 0)

-- the states of the old tree are in the new one, by the same numbers, and so are its marks
pub record HasGrown (old new : Tree) : Type 0 where
  pub letters : new.letters ≡ old.letters
  pub states : (n : ℕ) → n < length old.states
      → (n < length new.states)
      × (slice_index_or new.states n [] ≡ slice_index_or old.states n [])
  pub marked : (u : Word) → IsMarked old u → IsMarked new u

-- the tree of the rules, the shorter states first
pub record IsRuleTree (rules : List (Word × Word)) (t : Tree) : Type 0 where
  pub trie : IsTrie rules t
  pub are : AreStates rules t.states
  pub marked : (n : ℕ) → n < length rules → IsMarked t (left_at rules n)
  pub rises : (i j : ℕ) → i ≤ j → j < length t.states
      → length (slice_index_or t.states i []) ≤ length (slice_index_or t.states j [])

-- the child that is there
pub record IsThere (node letter : ℕ) (old new : Trie) (to : ℕ) : Type 0 where
  pub found : target old.children node letter ≡ Some to
  pub same : new ≡ old

-- a new child
pub record IsNew (node letter : ℕ) (prefix : Prefix) (old new : Trie) (to : ℕ) : Type 0 where
  pub missing : target old.children node letter ≡ None
  pub number : to ≡ length old.children
  pub letters : new.letters ≡ old.letters
  pub prefixes : new.prefixes.items ≡ old.prefixes.items ++ prefix ∷ []
  pub children : new.children
      ≡ with_entry (with_node old.letters old.children) node letter (Some to)
  pub lefts : new.lefts ≡ with_node old.letters old.lefts

-- the child by the letter in the old tree, which the new one has if the old one has none
abbrev pub FindsChild : ℕ → ℕ → Prefix → Trie → Trie → ℕ → Type 0
FindsChild node letter prefix old new to =
    IsThere node letter old new to ⊎ IsNew node letter prefix old new to

-- the words of the states of a tree
abbrev pub states_of : List (Word × Word) → Trie → List Word
states_of rules trie = words_of rules trie.prefixes.items

-- a tree as the code keeps it
abbrev pub tree_of : List (Word × Word) → Trie → Tree
tree_of rules trie = record {
  letters = trie.letters;
  states = states_of rules trie;
  children = trie.children;
  lefts = trie.lefts;
}

-- the tree of all rules
abbrev pub IsTreeOf : List (Word × Word) → Trie → Type 0
IsTreeOf rules trie = IsRuleTree rules (tree_of rules trie)

-- whether a left side stands at the end of u, and of which rule
abbrev pub IsEnd : List (Word × Word) → Word → Option ℕ → Type 0
IsEnd rules u None = HasEnd rules u → ⊥
IsEnd rules u (Some number) = EndsAt rules u number

-- the longest state at the end of u, and a left side there
pub record Reads (rules : List (Word × Word)) (states : List Word) (u : Word) (target : ℕ)
    (end : Option ℕ) : Type 0 where
  pub longest : IsLongest states u target
  pub ends : IsEnd rules u end

-- the entry of the state n and the letter a comes before that of the node and the letter
abbrev pub ComesBefore : ℕ → ℕ → ℕ → ℕ → Type 0
ComesBefore node letter n a = (n < node) ⊎ ((n ≡ node) × (a < letter))

-- the state of an entry, and the first where there is none
abbrev pub state_at : Graph → ℕ → ℕ → ℕ
state_at targets node letter = unwrap_or (target targets node letter) 0

-- the tables while they are filled: for each state and letter a state and an end, and for each
-- state a link
pub record Filling : Type 0 where
  pub targets : Graph
  pub links : List ℕ
  pub ends : Graph

-- rows for the states of a tree, and numbers of states in them
pub record AreTables (t : Tree) (f : Filling) : Type 0 where
  pub some : 0 < length t.states
  pub target_rows : AreRows (length t.states) t.letters f.targets
  pub end_rows : AreRows (length t.states) t.letters f.ends
  pub links_count : length f.links ≡ length t.states
  pub targets_within : (i a : ℕ) → state_at f.targets i a < length t.states
  pub links_within : (i : ℕ) → i < length t.states → slice_index_or f.links i 0 < length t.states

-- the entries before that of the node and the letter are right
pub record IsLinkedTo (rules : List (Word × Word)) (t : Tree) (node letter : ℕ)
    (f : Filling) : Type 0 where
  pub tables : AreTables t f
  pub reads : (n a : ℕ) → n < length t.states → a < t.letters → ComesBefore node letter n a
      → Reads rules t.states (longer t.states n a) (state_at f.targets n a) (target f.ends n a)
  pub there : (n a : ℕ) → n < length t.states → a < t.letters → ComesBefore node letter n a
      → (to : ℕ) × (target f.targets n a ≡ Some to)
  -- the link of a state leads to the longest state at its end that is not all of it
  pub link : (n a to : ℕ) → n < length t.states → a < t.letters → ComesBefore node letter n a
      → target t.children n a ≡ Some to
      → IsLongest t.states (drop 1 (slice_index_or t.states to [])) (slice_index_or f.links to 0)

-- each entry is right
pub record IsFilled (rules : List (Word × Word)) (t : Tree) (f : Filling) : Type 0 where
  pub tables : AreTables t f
  pub reads : (n a : ℕ) → n < length t.states → a < t.letters
      → Reads rules t.states (longer t.states n a) (state_at f.targets n a) (target f.ends n a)
  pub full : IsComplete t.letters f.targets

-- what is read behind the first letter of a state and a letter
abbrev pub IsBehind : ℕ → ℕ → Filling → ℕ × Option ℕ → Type 0
IsBehind node letter f r =
    ((node ≡ 0) × (r ≡ (0, None)))
    ⊎ ((node ≢ 0)
    × (r ≡ (
      state_at f.targets (slice_index_or f.links node 0) letter,
      target f.ends (slice_index_or f.links node 0) letter,
    )))

-- the links, with that of a child
abbrev pub linked : Option ℕ → ℕ → List ℕ → List ℕ
linked None to links = links
linked (Some child) to links = slice_set links child to

-- what is filled
abbrev pub filling_of : Tables → Filling
filling_of tables = record {
  targets = tables.targets;
  links = tables.links.items;
  ends = tables.ends;
}

-- the entries before that of a node and a letter are right
abbrev pub AreLinkedTo : List (Word × Word) → Trie → ℕ → ℕ → Tables → Type 0
AreLinkedTo rules trie node letter tables =
    IsLinkedTo rules (tree_of rules trie) node letter (filling_of tables)

-- each entry of the tables of a tree is right
abbrev pub AreFilled : List (Word × Word) → Trie → Tables → Type 0
AreFilled rules trie tables = IsFilled rules (tree_of rules trie) (filling_of tables)
