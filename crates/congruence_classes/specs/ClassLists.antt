-- Graphs that decide the relation of elements, and lists of the least words of classes.
use Rattle.std.specs.Prelude.{◌↔◌, ◌≡◌, ℕ, ◌<◌, ◌≤◌, Bool, true, false, not, ◌==◌, List, [], length, reverse, slice_index, slice_index_or, cond, Option, Some, unwrap_or}
use Rattle.theory.specs.declared.Kind.{Kind}
use Rattle.theory.specs.declared.Kind.TheVariants.{TwoSided, Right, Left}
use Rattle.theory.specs.Word.{Word, IsOver, IsElement}
use Rattle.theory.specs.ShortLex.{◌≺◌}
use Rattle.theory.specs.Class.{IsLeast}
use Rattle.theory.specs.Listing.{IsAfter}
use Rattle.theory.specs.Graph.{Graph, path, SameEnd, IsGraph}
use Rattle.problem.specs.declared.kinds.Problem.{Problem}
use Rattle.problem.specs.Problem.{SameClassOf, count_of, has_empty_word, kind_of, pairs_of}
use Rattle.word_graph.specs.Standard.{IsStandardGraph}

-- a word as a graph reads it: forwards, or backwards
abbrev pub as_read : (backwards : Bool) → Word → Word
as_read true u = reverse u
as_read false u = u

-- a graph over k letters whose equal paths are the relation of the elements; where the empty word
-- is none, it alone leads to the root
pub record IsGraphOf (R : Word → Word → Type 0) (empty : Bool) (k : ℕ) (backwards : Bool)
    (g : Graph) : Type 0 where
  pub graph : IsGraph k g
  pub reached : (node : ℕ) → node < length g → (u : Word) × (path g 0 u ≡ Some node)
  pub defined : (u : Word) → IsOver k u → (node : ℕ) × (path g 0 u ≡ Some node)
  pub alone : empty ≡ false → (u : Word) → path g 0 u ≡ Some 0 → u ≡ []
  pub decides : (u v : Word) → IsElement empty k u → IsElement empty k v
      → R u v ↔ SameEnd g (as_read backwards u) (as_read backwards v)

-- with left pairs words are read backwards
abbrev pub are_read_backwards : Kind → List (Word × Word) → Bool
are_read_backwards TwoSided pairs = false
are_read_backwards Right pairs = false
are_read_backwards Left pairs = not (length pairs == 0)

abbrev pub reads_backwards : Problem → Bool
reads_backwards p = are_read_backwards (kind_of p) (pairs_of p)

-- a graph that decides the problem
abbrev pub IsGraphFor : Problem → Graph → Type 0
IsGraphFor p = IsGraphOf (SameClassOf p) (has_empty_word p) (count_of p) (reads_backwards p)

-- and one that is standard
abbrev pub IsStandardGraphFor : Problem → Graph → Type 0
IsStandardGraphFor p g = IsGraphFor p g × IsStandardGraph (count_of p) g

-- the word of the node at a place
abbrev pub word_at : List (ℕ × Word) → ℕ → Word
word_at least place = (slice_index_or least place (0, [])).1

-- and the node
abbrev pub node_at : List (ℕ × Word) → ℕ → ℕ
node_at least place = (slice_index_or least place (0, [])).0

-- the first place of a class: in a semigroup the root is none
abbrev pub first_class : Bool → ℕ
first_class empty = cond empty 0 1

-- so many words ascend
abbrev pub AreAscending : ℕ → (ℕ → Word) → Type 0
AreAscending count word = (i j : ℕ) → i < j → j < count → word i ≺ word j

-- each node with the least word that leads to it, as the graph reads words, in the order of these
-- words
pub record AreOrderedWords (g : Graph) (backwards : Bool) (least : List (ℕ × Word)) : Type 0 where
  pub count : length least ≡ length g
  pub ascending : AreAscending (length least) (word_at least)
  pub nodes : (i : ℕ) → i < length least → node_at least i < length g
  pub all : (node : ℕ) → node < length g → (i : ℕ) × (i < length least) × (node_at least i ≡ node)
  pub leads : (i : ℕ) → i < length least
      → path g 0 (as_read backwards (word_at least i)) ≡ Some (node_at least i)
  pub none_less : (i : ℕ) (v : Word) → i < length least
      → path g 0 (as_read backwards v) ≡ Some (node_at least i) → v ≺ word_at least i → ⊥

-- each word with its number
pub record AreNumberedWords (words : List Word) (pairs : List (ℕ × Word)) : Type 0 where
  pub count : length pairs ≡ length words
  pub nodes : (i : ℕ) → i < length words → node_at pairs i ≡ i
  pub each : (i : ℕ) → i < length words → word_at pairs i ≡ slice_index_or words i []

-- the nodes are as many numbers from 0 on, each once
pub record ArePlaced (least : List (ℕ × Word)) : Type 0 where
  pub nodes : (i : ℕ) → i < length least → node_at least i < length least
  pub once : (i j : ℕ) → i < length least → j < length least
      → node_at least i ≡ node_at least j → i ≡ j

-- the place of each node
pub record ArePlacesOf (least : List (ℕ × Word)) (places : List ℕ) : Type 0 where
  pub count : length places ≡ length least
  pub each : (i : ℕ) → i < length least → slice_index places (node_at least i) ≡ i

-- the place of the node to which a word leads, or of the root
abbrev pub place_of : Graph → List ℕ → Word → ℕ
place_of g places u = slice_index places (unwrap_or (path g 0 u) 0)

-- the nodes to which words lead have places
abbrev pub AreListed : Graph → List ℕ → List (ℕ × Word) → Type 0
AreListed g places least = (u : Word)
    → (unwrap_or (path g 0 u) 0 < length places) × (place_of g places u < length least)

-- words over so many letters in order, and a place among them for each word
pub record ClassList : Type 0 where
  pub letters : ℕ
  pub count : ℕ
  pub word : ℕ → Word
  pub place : Word → ℕ

-- the words are over the letters and ascend, and what is over the letters has a place
pub record IsListing (list : ClassList) : Type 0 where
  pub over : (i : ℕ) → i < list.count → IsOver list.letters (list.word i)
  pub ascending : AreAscending list.count list.word
  pub listed : (u : Word) → IsOver list.letters u → list.place u < list.count

-- two elements are related exactly where they have one place, and from the first class on, behind
-- the empty word of the root, the words of the places are the least of all classes
pub record IsSolution (R : Word → Word → Type 0) (empty : Bool) (k : ℕ) (list : ClassList) : Type 0
  where
    pub among : (u v : Word) → R u v → IsElement empty k u × IsElement empty k v
    pub letters : list.letters ≡ k
    pub listing : IsListing list
    pub root : list.word 0 ≡ []
    pub home : list.place [] ≡ 0
    pub decides : (u v : Word) → IsElement empty k u → IsElement empty k v
        → R u v ↔ (list.place u ≡ list.place v)
    pub classes : (i : ℕ) → first_class empty ≤ i → i < list.count → IsLeast R (list.word i)
    pub reached : (u : Word) → IsElement empty k u
        → (first_class empty ≤ list.place u) × R u (list.word (list.place u))

-- the list decides the problem
abbrev pub IsSolutionFor : Problem → ClassList → Type 0
IsSolutionFor p = IsSolution (SameClassOf p) (has_empty_word p) (count_of p)

-- a graph over so many letters that reads words forwards or backwards, the words of its nodes in
-- order, and the places of its nodes
pub record CosetTable : Type 0 where
  pub letters : ℕ
  pub backwards : Bool
  pub graph : Graph
  pub least : List (ℕ × Word)
  pub places : List ℕ

-- the words of the nodes, and the place of the node to which a word leads
abbrev pub coset_list : CosetTable → ClassList
coset_list t = record {
  letters = t.letters;
  count = length t.least;
  word = word_at t.least;
  place = λ u. place_of t.graph t.places (as_read t.backwards u);
}

-- of the words from the first class on, those from the place on come after the cursor, and those
-- before it do not
pub record IsPlaceAfter (first : ℕ) (list : ClassList) (cursor : Option Word) (place : ℕ) : Type 0
  where
    pub within : (first ≤ place) × (place ≤ list.count)
    pub before : (i : ℕ) → first ≤ i → i < place → IsAfter ◌≺◌ cursor (list.word i) → ⊥
    pub after : (i : ℕ) → place ≤ i → i < list.count → IsAfter ◌≺◌ cursor (list.word i)
