-- Pages of items that are found one after another.
use Rattle.std.proofs.Common.{◌≡◌, ℕ, zero, suc, ◌+◌, ◌-◌, ◌<◌, ◌≤◌, Bool, true, false, inl, inr, is_some, List, [], ◌∷◌, ◌++◌, length, MatchOption, Option, Some, None, Result, Ok, Err, refl, sym, ap, subst, ◌∙◌, arith, append-nil, length-append}
use Rattle.std.specs.List.{flat_map}
use Rattle.std.proofs.lemmas.Grind.{flat_map-append}
use Rattle.ports.specs.declared.sink.Sink.{Ghosts}
use Rattle.ports.specs.declared.fault.WriteFault.{WriteFault}
use Rattle.ports.specs.declared.fault.WriteFault.TheVariants.{NoMemory}
use Rattle.ports.specs.Writes.{Writes, WritesBytes}
use Rattle.ports.proofs.WriteLemmas.{meant_bytes, same_bytes, bytes_then, bytes_broken_off, bytes_refused}
use Rattle.theory.specs.Listing.{IsPage, IsLast, IsNext, IsStartOf, last_of, GoesOnOrEnds, IsStrictOrder}
use Rattle.theory.proofs.Listings.{start_push, last_of_push, page_after_start, page_cons, page_none, page_of_none, page_from_next, page_from_last}
use Rattle.report_lines.specs.Lines.{end_line, page_lines}
use Rattle.report_lines.specs.Pages.{ArePageLines}
use Rattle.report_lines.specs.LineBytes.{AreBytesOf, bytes_of}
use Rattle.report_lines.proofs.ListingLemmas.{listing_begun, listing_ended}

-- the lines of the first items after the first cursor are written, one for each turn, and the cursor is the last of them
pub record IsBegun {A K : Type 0} (sink : Ghosts K) (P : A → Type 0) (Less : A → A → Type 0) (line : A → List ℕ) (after cursor : Option A) (turns : ℕ) (old new : K) : Type 0 where
  pub items : List A
  pub start : IsStartOf P Less after items
  pub last : cursor ≡ last_of after items
  pub count : length items ≡ turns
  pub written : WritesBytes sink (flat_map line items) old new (Ok (tt {0}))

module _ {A : Type 0} (P : A → Type 0) (Less : A → A → Type 0) where
  -- there is a page of each size, where after each cursor comes a next word, or none
  some_page : GoesOnOrEnds P Less → (cursor : Option A) (count : ℕ) → (items : List A) × (more : Bool) × IsPage P Less cursor count items more
  some_page goes_on cursor zero = elim (goes_on cursor) [ inl last ↦ ([], false, page_none P Less cursor zero last) | inr next ↦ ([], true, page_of_none P Less cursor next) ]
  some_page goes_on cursor (suc count) = elim (goes_on cursor) [
    | inl last ↦ ([], false, page_none P Less cursor (suc count) last)
    | inr next ↦ let rest = some_page goes_on (Some next.0) count in (next.0 ∷ rest.0, rest.1, page_cons P Less cursor count next.0 rest.0 rest.1 next.1 rest.2)
  ]

  -- what was found after the cursor
  abbrev pub Found : Option A → Option A → Type 0
  Found cursor next = MatchOption next (IsLast P Less cursor) (IsNext P Less cursor)

  pub next_found : (next : Option A) (w : A) (asked cursor : Option A) → asked ≡ cursor → next ≡ Some w → Found asked next → IsNext P Less cursor w
  next_found next w asked cursor e is h = subst (λ c. IsNext P Less c w) e (subst (Found asked) is h)

  pub none_found : (next asked cursor : Option A) → asked ≡ cursor → next ≡ None → Found asked next → IsLast P Less cursor
  none_found next asked cursor e is h = subst (λ c. IsLast P Less c) e (subst (Found asked) is h)

  -- the bytes of a page
  abbrev Page : (A → List ℕ) → Option A → ℕ → Unit {0} → List ℕ → Type 0
  Page line after count _ = AreBytesOf (ArePageLines P Less line after count)

  module _ (order : IsStrictOrder P Less) (line : A → List ℕ) (after : Option A) where
    -- the lines of a page
    page_bytes : (count : ℕ) (items : List A) (more : Bool) → IsPage P Less after count items more → (value : Unit {0}) → Page line after count value (bytes_of (page_lines line items more))
    page_bytes count items more page value = record { lines = page_lines line items more; are_such = record { items = items; more = more; is_page = page; are_lines = refl }; are_bytes = refl }

    module _ {K : Type 0} (sink : Ghosts K) (cursor : Option A) (turns : ℕ) (old mid : K) (b : IsBegun sink P Less line after cursor turns old mid) where
      -- one word more
      pub more_begun : (w : A) (new : K) → IsNext P Less cursor w → WritesBytes sink (line w) mid new (Ok (tt {0})) → IsBegun sink P Less line after (Some w) (turns + 1) old new
      more_begun w new next written = record {
        items = b.items ++ w ∷ [];
        start = start_push P Less order after b.items w b.start (subst (λ c. IsNext P Less c w) b.last next);
        last = sym (last_of_push P Less order after b.items w);
        count = length-append b.items (w ∷ []) ∙ ap (λ n. n + 1) b.count;
        written = same_bytes sink _ _ old new _ (sym lines) (bytes_then sink _ _ old mid new _ _ b.written written);
      }
        where
          lines : flat_map line (b.items ++ w ∷ []) ≡ flat_map line b.items ++ line w
          lines = flat_map-append line b.items (w ∷ []) ∙ ap (λ t. flat_map line b.items ++ t) (append-nil (line w))

      ended : (count : ℕ) → turns ≤ count → IsLast P Less cursor → IsPage P Less after count b.items false
      ended count most h = page_from_last P Less order after count b.items (omega (arith, b.count)) b.start (subst (λ c. IsLast P Less c) b.last h)

      filled : (w : A) → IsNext P Less cursor w → IsPage P Less after turns b.items true
      filled w next =
          subst (λ n. IsPage P Less after n b.items true) b.count
          (page_from_next P Less order after b.items w b.start (subst (λ c. IsNext P Less c w) b.last next))

      -- the words so far are the page, and its last line follows
      page_with_end : (count : ℕ) (more : Bool) (new : K) (r : Result (Unit {0}) WriteFault) → IsPage P Less after count b.items more → WritesBytes sink (end_line more) mid new r → Writes sink (Page line after count) old new r
      page_with_end count more new r page end = meant_bytes sink _ old new r tt (page_bytes count b.items more page) (listing_ended sink line b.items (end_line more) old mid new r b.written end)

      -- nothing follows: the page ends
      pub page_ended : (count : ℕ) (new : K) (r : Result (Unit {0}) WriteFault) → turns ≤ count → IsLast P Less cursor → WritesBytes sink (end_line false) mid new r → Writes sink (Page line after count) old new r
      page_ended count new r most h = page_with_end count false new r (ended count most h)

      full : (next : Option A) → Found cursor next → IsPage P Less after turns b.items (is_some next)
      full None h = ended turns (omega arith) h
      full (Some w) h = filled w h

      -- as many words as asked for: the page tells whether there is a further one
      pub page_full : (next : Option A) (more : Bool) (new : K) (r : Result (Unit {0}) WriteFault) → Found cursor next → more ≡ is_some next → WritesBytes sink (end_line more) mid new r → Writes sink (Page line after turns) old new r
      page_full next more new r h e = page_with_end turns more new r (subst (IsPage P Less after turns b.items) (sym e) (full next h))

      module _ (goes_on : GoesOnOrEnds P Less) (count : ℕ) where
        -- a fault while further words are written, from the cursor on
        begun : (n : ℕ) (ys : List A) (more : Bool) (new : K) (fault : WriteFault) → turns + n ≡ count → IsPage P Less cursor n ys more → WritesBytes sink {T = Unit {0}} (flat_map line ys) mid new (Err fault)
            → Writes sink (Page line after count) old new (Err fault)
        begun n ys more new fault whole page written =
            let pages = subst (λ m. IsPage P Less after m (b.items ++ ys) more) (ap (λ m. m + n) b.count ∙ whole)
            (page_after_start P Less after b.items n ys more b.start (subst (λ c. IsPage P Less c n ys more) b.last page)) in
            meant_bytes sink _ old new (Err fault) tt (page_bytes count (b.items ++ ys) more pages)
            (listing_begun sink line (b.items ++ ys) (end_line more) old new fault (same_bytes sink _ _ old new _ (sym (flat_map-append line b.items ys)) (bytes_then sink _ _ old mid new _ _ b.written written)))

        -- memory ran out after the words so far
        pub page_begun : turns ≤ count → Writes sink (Page line after count) old mid (Err NoMemory)
        page_begun most =
            let rest = some_page goes_on cursor (count - turns) in
            begun (count - turns) rest.0 rest.1 mid NoMemory (omega arith) rest.2 (bytes_refused sink (flat_map line rest.0) mid)

        -- a fault at the next word
        pub word_begun : (w : A) (new : K) (fault : WriteFault) → turns < count → IsNext P Less cursor w → WritesBytes sink {T = Unit {0}} (line w) mid new (Err fault) → Writes sink (Page line after count) old new (Err fault)
        word_begun w new fault fewer next written =
            let rest = some_page goes_on (Some w) (count - turns - 1) in
            begun (suc (count - turns - 1)) (w ∷ rest.0) rest.1 new fault (omega arith) (page_cons P Less cursor (count - turns - 1) w rest.0 rest.1 next rest.2) (bytes_broken_off sink (line w) (flat_map line rest.0) mid new fault written)
