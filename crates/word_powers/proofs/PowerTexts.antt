-- What was read so far, as a text: the open groups and the last item of the innermost.
use Rattle.std.proofs.Common.{◌≡◌, ℕ, suc, ◌+◌, ◌*◌, ◌-◌, ◌≤◌, true, List, [], ◌∷◌, ◌++◌, length, ◌⊎◌, inl, inr, refl, arith}
use Rattle.theory.specs.Word.{Word}
use Rattle.word_powers.specs.Powers.{IsBase, IsItem, IsItems, IsExponent, power, Alone, Power, One, More, First, Next}
use Rattle.word_powers.specs.PowerSteps.{State, value, is_ready, is_full}
use Rattle.word_powers.specs.declared.powers.Last.{Last}
use Rattle.word_powers.specs.declared.powers.Last.TheVariants as last

-- no item, or items
pub data IsSeq (alphabet : List ℕ) : ℕ → List ℕ → Word → Type 0 where
  Nothing : (depth : ℕ) → IsSeq alphabet depth [] []
  Something : (depth : ℕ) (text : List ℕ) (word : Word) → IsItems alphabet depth text word → IsSeq alphabet depth text word

pub seq_item : (alphabet : List ℕ) (depth : ℕ) (text : List ℕ) (word : Word) (more : List ℕ) (more_word : Word) → IsSeq alphabet depth text word → IsItem alphabet depth more more_word → IsItems alphabet depth (text ++ more) (word ++ more_word)
seq_item alphabet depth text word more more_word (Nothing _) item = One depth more more_word item
seq_item alphabet depth text word more more_word (Something _ _ _ items) item = More depth text word more more_word items item

-- the text in front of the innermost group, which may have so many groups inside
pub data IsFront (alphabet : List ℕ) : ℕ → List Word → List ℕ → Type 0 where
  Top : IsFront alphabet 8 [] []
  Opened : (room : ℕ) (outer : List Word) (front text : List ℕ) (word : Word) → IsFront alphabet (suc room) outer front → IsSeq alphabet (suc room) text word → IsFront alphabet room (word ∷ outer) (front ++ (text ++ 40 ∷ []))

pub front_room : (alphabet : List ℕ) (room : ℕ) (outer : List Word) (front : List ℕ) → IsFront alphabet room outer front → room + length outer ≡ 8
front_room alphabet room outer front Top = refl
front_room alphabet room outer _ (Opened _ outer' front text word f seq) = let ih = front_room alphabet (suc room) outer' front f in omega arith

-- how many digits an exponent has, by its number
pub exponent_short : (count : ℕ) (text : List ℕ) (number : ℕ) → IsExponent count text number → ((count ≡ 1) × (1 ≤ number) × (number ≤ 9)) ⊎ (((count ≡ 2) × (10 ≤ number) × (number ≤ 99)) ⊎ (((count ≡ 3) × (100 ≤ number) × (number ≤ 999)) ⊎ ((count ≡ 4) × (1000 ≤ number) × (number ≤ 9999))))
exponent_short count text number (First byte l u) = inl (refl, omega arith, omega arith)
exponent_short count text number (Next k t n byte e short l u) = by (exponent_short k t n e)
  where
    by : ((k ≡ 1) × (1 ≤ n) × (n ≤ 9)) ⊎ (((k ≡ 2) × (10 ≤ n) × (n ≤ 99)) ⊎ (((k ≡ 3) × (100 ≤ n) × (n ≤ 999)) ⊎ ((k ≡ 4) × (1000 ≤ n) × (n ≤ 9999)))) → ((suc k ≡ 1) × (1 ≤ 10 * n + (byte - 48)) × (10 * n + (byte - 48) ≤ 9)) ⊎ (((suc k ≡ 2) × (10 ≤ 10 * n + (byte - 48)) × (10 * n + (byte - 48) ≤ 99)) ⊎ (((suc k ≡ 3) × (100 ≤ 10 * n + (byte - 48)) × (10 * n + (byte - 48) ≤ 999)) ⊎ ((suc k ≡ 4) × (1000 ≤ 10 * n + (byte - 48)) × (10 * n + (byte - 48) ≤ 9999))))
    by (inl h) = inr (inl (omega (arith, h.0), omega (arith, h.1), omega (arith, h.2)))
    by (inr (inl h)) = inr (inr (inl (omega (arith, h.0), omega (arith, h.1), omega (arith, h.2))))
    by (inr (inr (inl h))) = inr (inr (inr (omega (arith, h.0), omega (arith, h.1), omega (arith, h.2))))
    by (inr (inr (inr h))) = absurd (omega (arith, h.0))

-- the item that was read last, as it is
pub data IsLast (alphabet : List ℕ) (room : ℕ) : Last → List ℕ → Word → Word → Type 0 where
  Begun : IsLast alphabet room last.Start [] [] []
  Unit_word : IsLast alphabet room last.One (49 ∷ []) [] []
  Whole : (text more : List ℕ) (word base : Word) → IsSeq alphabet room text word → IsBase alphabet room more base → IsLast alphabet room last.Base (text ++ more) word base
  Raised : (text more : List ℕ) (word base : Word) → IsSeq alphabet room text word → IsBase alphabet room more base → IsLast alphabet room last.Caret (text ++ (more ++ 94 ∷ [])) word base
  Counted : (text more : List ℕ) (word base : Word) (count : ℕ) (digits : List ℕ) (number : ℕ) → IsSeq alphabet room text word → IsBase alphabet room more base → IsExponent count digits number → IsLast alphabet room (last.Digits number) (text ++ (more ++ 94 ∷ digits)) word base

-- what was read stands for the state
pub record IsRead (alphabet text : List ℕ) (s : State) : Type 0 where
  pub room : ℕ
  pub front : List ℕ
  pub rest : List ℕ
  pub is : text ≡ front ++ rest
  pub behind : IsFront alphabet room s.outer front
  pub at : IsLast alphabet room s.last rest s.before s.base
  pub one : s.last ≡ last.One → s.outer ≡ []

pub full_items : (alphabet : List ℕ) (room : ℕ) (was : Last) (rest : List ℕ) (before base : Word) → IsLast alphabet room was rest before base → is_full was ≡ true → IsItems alphabet room rest (before ++ value was base)
full_items alphabet room was rest before base Begun full = absurd (cc)
full_items alphabet room was rest before base Unit_word full = absurd (cc)
full_items alphabet room was _ before base (Whole text more _ _ seq b) full = seq_item alphabet room text before more base seq (Alone room more base b)
full_items alphabet room was _ before base (Raised text more _ _ seq b) full = absurd (cc)
full_items alphabet room was _ before base (Counted text more _ _ count digits number seq b e) full = seq_item alphabet room text before (more ++ 94 ∷ digits) (power number base) seq (Power room more base count digits number b e)

pub ready_seq : (alphabet : List ℕ) (room : ℕ) (was : Last) (rest : List ℕ) (before base : Word) → IsLast alphabet room was rest before base → is_ready was ≡ true → IsSeq alphabet room rest (before ++ value was base)
ready_seq alphabet room was rest before base Begun ready = Nothing room
ready_seq alphabet room was rest before base Unit_word ready = absurd (cc)
ready_seq alphabet room was rest before base (Whole text more _ _ seq b) ready = Something room (text ++ more) (before ++ base) (full_items alphabet room last.Base (text ++ more) before base (Whole text more before base seq b) refl)
ready_seq alphabet room was _ before base (Raised text more _ _ seq b) ready = absurd (cc)
ready_seq alphabet room was _ before base (Counted text more _ _ count digits number seq b e) ready = Something room (text ++ (more ++ 94 ∷ digits)) (before ++ power number base) (full_items alphabet room (last.Digits number) (text ++ (more ++ 94 ∷ digits)) before base (Counted text more before base count digits number seq b e) refl)
