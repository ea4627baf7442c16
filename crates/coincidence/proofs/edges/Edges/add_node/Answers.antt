use Rattle.std.proofs.Common.{◌≡◌, ℕ, List, Option, length, arith, inl, inr, refl, replicate, None, ap, ◌∙◌, ◌+◌}
use Rattle.std.proofs.lemmas.List.{length_push}
use Rattle.theory.specs.Graph.{Graph}
use Rattle.coincidence.specs.Links.{Links}
use Rattle.word_graph.specs.Edges.{with_node}
use Rattle.coincidence.proofs.LinkLaws.{linked_rows}
use Rattle.coincidence.proofs.BackLaws.{backed_rows}
use Rattle.coincidence.proofs.edges.Edges.add_node.Goals as goal

-- one more
more : (k : ℕ) (old new : Graph) → new ≡ with_node k old → length new ≡ length old + 1
more k old new e = ap length e ∙ length_push {X = List (Option ℕ)} old (replicate k None)

pub invariant_of-self-in_err-add_row-2 : goal.invariant_of-self-in_err-add_row-2
invariant_of-self-in_err-add_row-2 c =
    let k = c.self.inside.letters in
    let i = c.self.invariant.linked in
    let b = c.in_ok-add_row.ensures.ok k c.self.invariant.backed.width in
    let f = c.in_err-add_row-2.ensures.err in
    let t : Links = record { graph = c.self.inside.targets; firsts = c.self.inside.firsts; nexts = c.self.inside.nexts } in
    record {
      linked = linked_rows k t c.self.inside.targets c.add_row-2.new.self c.self.inside.nexts i (inl refl) (inl f) (inl refl) (omega (arith, i.first_rows, ap length f)) i.next_rows;
      backed = backed_rows k t c.self.inside.targets c.add_row-2.new.self c.self.inside.nexts c.self.inside.befores c.add_row.new.self c.self.invariant.backed (inl refl) (inl f) (inl refl) b;
    }

pub invariant_of-self-in_err-add_row-3 : goal.invariant_of-self-in_err-add_row-3
invariant_of-self-in_err-add_row-3 c =
    let k = c.self.inside.letters in
    let i = c.self.invariant.linked in
    let b = c.in_ok-add_row.ensures.ok k c.self.invariant.backed.width in
    let f = c.in_ok-add_row-2.ensures.ok k i.firsts in
    let n = c.in_err-add_row-3.ensures.err in
    let t : Links = record { graph = c.self.inside.targets; firsts = c.self.inside.firsts; nexts = c.self.inside.nexts } in
    record {
      linked = linked_rows k t c.self.inside.targets c.add_row-2.new.self c.add_row-3.new.self i (inl refl) (inr f) (inl n)
          (omega (arith, i.first_rows, more k c.self.inside.firsts c.add_row-2.new.self f)) (omega (arith, i.next_rows, ap length n));
      backed = backed_rows k t c.self.inside.targets c.add_row-2.new.self c.add_row-3.new.self c.self.inside.befores c.add_row.new.self c.self.invariant.backed (inl refl) (inr f) (inl n) b;
    }

pub invariant_of-self-in_err-add_row-4 : goal.invariant_of-self-in_err-add_row-4
invariant_of-self-in_err-add_row-4 c =
    let k = c.self.inside.letters in
    let i = c.self.invariant.linked in
    let b = c.in_ok-add_row.ensures.ok k c.self.invariant.backed.width in
    let f = c.in_ok-add_row-2.ensures.ok k i.firsts in
    let n = c.in_ok-add_row-3.ensures.ok k i.nexts in
    let g = c.in_err-add_row-4.ensures.err in
    let t : Links = record { graph = c.self.inside.targets; firsts = c.self.inside.firsts; nexts = c.self.inside.nexts } in
    record {
      linked = linked_rows k t c.add_row-4.new.self c.add_row-2.new.self c.add_row-3.new.self i (inl g) (inr f) (inr n)
          (omega (arith, i.first_rows, ap length g, more k c.self.inside.firsts c.add_row-2.new.self f)) (omega (arith, i.next_rows, ap length g, more k c.self.inside.nexts c.add_row-3.new.self n));
      backed = backed_rows k t c.add_row-4.new.self c.add_row-2.new.self c.add_row-3.new.self c.self.inside.befores c.add_row.new.self c.self.invariant.backed (inl g) (inr f) (inr n) b;
    }

pub invariant_of-self-2 : goal.invariant_of-self-2
invariant_of-self-2 c =
    let k = c.self.inside.letters in
    let i = c.self.invariant.linked in
    let b = c.in_ok-add_row.ensures.ok k c.self.invariant.backed.width in
    let f = c.in_ok-add_row-2.ensures.ok k i.firsts in
    let n = c.in_ok-add_row-3.ensures.ok k i.nexts in
    let g = c.in_ok-add_row-4.ensures.ok k i.graph.width in
    let t : Links = record { graph = c.self.inside.targets; firsts = c.self.inside.firsts; nexts = c.self.inside.nexts } in
    record {
      linked = linked_rows k t c.add_row-4.new.self c.add_row-2.new.self c.add_row-3.new.self i (inr g) (inr f) (inr n)
          (omega (arith, i.first_rows, more k c.self.inside.targets c.add_row-4.new.self g, more k c.self.inside.firsts c.add_row-2.new.self f))
          (omega (arith, i.next_rows, more k c.self.inside.targets c.add_row-4.new.self g, more k c.self.inside.nexts c.add_row-3.new.self n));
      backed = backed_rows k t c.add_row-4.new.self c.add_row-2.new.self c.add_row-3.new.self c.self.inside.befores c.add_row.new.self c.self.invariant.backed (inr g) (inr f) (inr n) b;
    }
