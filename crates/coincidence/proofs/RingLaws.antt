-- Rings of edges each of which is the only one of its letter into its end.
use Rattle.std.proofs.Common.{◌≡◌, ℕ, ◌+◌, ◌-◌, ◌<◌, ◌≤◌, List, [], ◌∷◌, ◌++◌, refl, sym, ◌∙◌, ap, arith, inl, inr, zero, suc, Some, None, length, subst, slice_get, take, drop, option_and_then}
use Rattle.std.proofs.lemmas.Bool.{cases_lt}
use Rattle.std.proofs.lemmas.List.{append_assoc, get_or_append_left, length-append, length-drop, take-append-le, drop-append-le, drop-drop, take_all, take_more_same, get_or-drop}
use Rattle.std.proofs.lemmas.Option.{slice_get_within, get_or_from_slice_get, slice_get-get_or}
use Rattle.std.proofs.Math.Seq.{take-append_seam, drop-append_seam, drop-cons, take-add}
use Rattle.theory.specs.Word.{Word}
use Rattle.theory.specs.Graph.{Graph, target, path}
use Rattle.theory.proofs.GraphLaws.{path_append, path_front, path_letter}
use Rattle.word_graph.proofs.WalkLaws.{some_same}
use Rattle.coincidence.specs.Links.{Links, IsChain, IsSources, IsLinked}
use Rattle.coincidence.specs.Pending.{IsAmong}
use Rattle.coincidence.specs.Reading.{IsQuietBoth, IsDueAlong}
use Rattle.coincidence.specs.Rings.{IsLoneEdge, IsLoneWalk, turned}
use Rattle.coincidence.specs.declared.due.Due.TheVariants.{Nothing}
use Rattle.coincidence.proofs.FollowsLaws.{path_more}
use Rattle.coincidence.proofs.ReadLaws.{get_at}

-- where the first source of a node is the last, its edge is the only one
pub lone_edge : (k : ℕ) (t : Links) (node letter source : ℕ) → IsLinked k t → target t.firsts node letter ≡ Some source → target t.nexts source letter ≡ None
    → IsLoneEdge t.graph source letter node
lone_edge k t node letter source is first last =
    (l.1.only source (head l.0 chain), λ n e. one l.0 chain n (l.1.all n e))
  where
    l : (list : List ℕ) × IsSources t node letter list
    l = is.lists node letter

    chain : IsChain (λ n. target t.nexts n letter) (Some source) l.0
    chain = subst (λ z. IsChain (λ m. target t.nexts m letter) z l.0) first l.1.chain

    head : (list : List ℕ) → IsChain (λ n. target t.nexts n letter) (Some source) list → IsAmong source list
    head [] chain = let no : None ≡ Some source = sym chain in cc
    head (x ∷ list) chain = inl (some_same source x chain.0)

    one : (list : List ℕ) → IsChain (λ n. target t.nexts n letter) (Some source) list → (n : ℕ) → IsAmong n list → n ≡ source
    one [] chain n h = absurd h
    one (x ∷ []) chain n (inl e) = e ∙ sym (some_same source x chain.0)
    one (x ∷ []) chain n (inr h) = absurd h
    one (x ∷ y ∷ list) chain n h =
        let more : target t.nexts source letter ≡ Some y = ap (λ z. target t.nexts z letter) (some_same source x chain.0) ∙ chain.1.0 in
        let no : None ≡ Some y = sym last ∙ more in cc

-- one edge more in front of the walk so far
pub lone_step : (g : Graph) (at node source letter place to : ℕ) (word : Word) → place < to → slice_get word place ≡ Some letter → IsLoneEdge g source letter at
    → IsLoneWalk g at (take (to - (place + 1)) (drop (place + 1) word)) node → IsLoneWalk g source (take (to - place) (drop place word)) node
lone_step g at node source letter place to word less here edge walk =
    subst (λ z. IsLoneWalk g source z node) (sym is) (at, edge, walk)
  where
    within : place < length word
    within = slice_get_within word place letter here

    one : suc (to - (place + 1)) ≡ to - place
    one = omega (arith, less)

    next : suc place ≡ place + 1
    next = omega arith

    cut : drop place word ≡ letter ∷ drop (place + 1) word
    cut = drop-cons word place 0 within ∙ ap (λ z. z ∷ drop (suc place) word) (get_or_from_slice_get word place letter 0 here) ∙ ap (λ z. letter ∷ drop z word) next

    is : take (to - place) (drop place word) ≡ letter ∷ take (to - (place + 1)) (drop (place + 1) word)
    is = ap (take (to - place)) cut ∙ ap (λ z. take z (letter ∷ drop (place + 1) word)) (sym one)

-- two walks, one after the other
lone_append : (g : Graph) (node middle end : ℕ) (u v : Word) → IsLoneWalk g node u middle → IsLoneWalk g middle v end → IsLoneWalk g node (u ++ v) end
lone_append g node middle end [] v one two = subst (λ z. IsLoneWalk g z v end) (sym one) two
lone_append g node middle end (a ∷ u) v one two = (one.0, one.1, lone_append g one.0 middle end u v one.2 two)

pub lone_turned : (g : Graph) (start middle node place : ℕ) (side : Word) → place ≤ length side
    → IsLoneWalk g start (take (length side - place) (drop place side)) middle → IsLoneWalk g middle (take (place - 0) (drop 0 side)) node
    → IsLoneWalk g start (turned place side) node
lone_turned g start middle node place side within one two =
    let none : place - 0 ≡ place = omega arith in
    let few : length (drop place side) ≤ length side - place = omega (arith, length-drop place side) in
    lone_append g start middle node (drop place side) (take place side)
    (subst (λ z. IsLoneWalk g start z middle) (take_all (length side - place) (drop place side) few) one)
    (subst (λ z. IsLoneWalk g middle (take z side) node) none two)

-- where such a walk ends
lone_split : (g : Graph) (node end : ℕ) (u v : Word) → IsLoneWalk g node (u ++ v) end → (m : ℕ) × (path g node u ≡ Some m) × IsLoneWalk g m v end
lone_split g node end [] v walk = (node, refl, walk)
lone_split g node end (a ∷ u) v walk =
    let rest = lone_split g walk.0 end u v walk.2 in
    (rest.0, ap (option_and_then (λ next. path g next u)) walk.1.0 ∙ rest.1, rest.2)

-- each path of the word to the end of such a walk starts where the walk does
lone_back : (g : Graph) (node end n : ℕ) (u : Word) → IsLoneWalk g node u end → path g n u ≡ Some end → n ≡ node
lone_back g node end n [] walk e = some_same n end e ∙ sym walk
lone_back g node end n (a ∷ u) walk e =
    let front = path_front g n end (a ∷ []) u e in
    let same : front.0 ≡ walk.0 = lone_back g walk.0 end front.0 u walk.2 front.2 in
    walk.1.1 n (sym (path_letter g n a) ∙ front.1 ∙ ap (λ z. Some z) same)

-- a word leads from a node back to it, where the turned word does from the node in between
turned_home : (g : Graph) (node n : ℕ) (front back : Word) → IsLoneWalk g node (back ++ front) node → path g n front ≡ Some node → path g n (front ++ back) ≡ Some n
turned_home g node n front back walk e =
    let s = lone_split g node node back front walk in
    path_append g n node front back e ∙ s.1 ∙ ap (λ z. Some z) (sym (lone_back g s.0 node n front s.2 e))

-- where the side leads home, it asks for nothing beside the empty word
home_quiet : (g : Graph) (n : ℕ) (side : Word) → path g n side ≡ Some n → IsQuietBoth g n side []
home_quiet g n side home = (
  λ j a m k. absurd (omega (arith, ap length k.1, length-append k.0 (a ∷ []))),
  λ j a m k. sym (path_more g n j k.0 a k.3) ∙ ap (path g n) (sym k.1) ∙ home ∙ k.2,
)

-- a letter more that is repeated
pub repeats_more : (word : Word) (from to count i a b : ℕ) → from + count ≤ length word → to + count ≤ length word → i < count
    → slice_get word (from + i) ≡ Some a → slice_get word (to + i) ≡ Some b → a ≡ b
    → take i (drop from word) ≡ take i (drop to word) → take (i + 1) (drop from word) ≡ take (i + 1) (drop to word)
repeats_more word from to count i a b one two less here there same q =
    take_more_same (drop from word) (drop to word) i 0 (omega (arith, one, less, length-drop from word)) (omega (arith, two, less, length-drop to word)) q
    (get_or-drop from word i 0 ∙ get_or_from_slice_get word (from + i) a 0 here ∙ same
    ∙ sym (get_or_from_slice_get word (to + i) b 0 there) ∙ sym (get_or-drop to word i 0))

-- a period more turns the word no further
turned_more : (word : Word) (count place : ℕ) → turned count word ≡ word → count + place ≤ length word → turned (count + place) word ≡ turned place word
turned_more word count place e within =
    ap (λ z. z ++ take (count + place) word) (sym (drop-drop place count word)) ∙ ap (λ z. drop place b ++ z) (take-add count place word)
    ∙ sym (append_assoc (drop place b) a (take place b)) ∙ ap (λ z. z ++ take place b) (sym (drop-append-le place b a short))
    ∙ ap (λ z. drop place (b ++ a) ++ z) (sym (take-append-le place b a short)) ∙ ap (turned place) e
  where
    a : Word
    a = take count word

    b : Word
    b = drop count word

    short : place ≤ length b
    short = omega (arith, within, length-drop count word)

-- and stands at the same letter
letter_more : (word : Word) (count place letter : ℕ) → turned count word ≡ word → slice_get word (count + place) ≡ Some letter → slice_get word place ≡ Some letter
letter_more word count place letter e here =
    ap (λ z. slice_get z place) (sym e) ∙ slice_get-get_or (b ++ take count word) place 0 all ∙ ap (λ z. Some z) (get_or_append_left b (take count word) 0 place short ∙ get_or-drop count word place 0 ∙ get_or_from_slice_get word (count + place) letter 0 here)
  where
    b : Word
    b = drop count word

    within : count + place < length word
    within = slice_get_within word (count + place) letter here

    short : place < length b
    short = omega (arith, within, length-drop count word)

    all : place < length (b ++ take count word)
    all = omega (arith, short, length-append b (take count word))

-- the word, begun at each of the places before this one with the letter, is a ring
abbrev pub IsRingBelow : Graph → ℕ → ℕ → Word → ℕ → Type 0
IsRingBelow g node letter side count = (place : ℕ) → place < count → slice_get side place ≡ Some letter → IsLoneWalk g node (turned place side) node

-- what holds at the places of the first period holds at all
rings_all : (g : Graph) (node letter : ℕ) (side : Word) (count : ℕ) → 0 < count → turned count side ≡ side → IsRingBelow g node letter side count
    → (most place : ℕ) → place ≤ most → slice_get side place ≡ Some letter → IsLoneWalk g node (turned place side) node
rings_all g node letter side count some e q zero place h here = q place (omega (arith, some, h)) here
rings_all g node letter side count some e q (suc most) place h here = elim (cases_lt place count) [
  | inl less ↦ q place less here
  | inr more ↦
      let rest : place ≡ count + (place - count) = omega (arith, more) in
      let before = rings_all g node letter side count some e q most (place - count) (omega (arith, h, some, more))
      (letter_more side count (place - count) letter e (subst (λ z. slice_get side z ≡ Some letter) rest here)) in
      let turn : turned place side ≡ turned (place - count) side =
      ap (λ z. turned z side) rest ∙ turned_more side count (place - count) e (omega (arith, slice_get_within side place letter here, more)) in
      subst (λ z. IsLoneWalk g node z node) (sym turn) before
]

-- a power that comes round asks for nothing across the edge
pub round_quiet : (g : Graph) (node letter : ℕ) (side other : Word) (count : ℕ) → other ≡ [] → 0 < count → turned count side ≡ side → IsRingBelow g node letter side count
    → IsDueAlong g node letter side side other Nothing
round_quiet g node letter side other count empty some e q n k =
    subst (λ z. IsQuietBoth g n side z) (sym empty) (home_quiet g n side (ap (path g n) k.word ∙ home))
  where
    back : Word
    back = letter ∷ k.back

    at : slice_get side (length k.front) ≡ Some letter
    at = ap (λ z. slice_get z (length k.front)) k.word ∙ get_at k.front letter k.back

    turn : turned (length k.front) side ≡ back ++ k.front
    turn = ap (turned (length k.front)) k.word ∙ ap (λ z. z ++ take (length k.front) (k.front ++ back)) (drop-append_seam k.front back) ∙ ap (λ z. back ++ z) (take-append_seam k.front back)

    walk : IsLoneWalk g node (back ++ k.front) node
    walk = subst (λ z. IsLoneWalk g node z node) turn (rings_all g node letter side count some e q (length k.front) (length k.front) (omega arith) at)

    home : path g n (k.front ++ back) ≡ Some n
    home = turned_home g node n k.front back walk k.leads
