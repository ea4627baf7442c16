use Rattle.std.proofs.Common.{◌-◌, ◌∙◌, ap, arith, take, subst, sym}
use Rattle.theory.specs.Graph.{path}
use Rattle.coincidence.specs.Reading.{IsDueBehind}
use Rattle.coincidence.specs.declared.due.Due.TheVariants.{Nothing}
use Rattle.coincidence.proofs.FollowsLaws.{path_more}
use Rattle.coincidence.proofs.ReadLaws.{IsListing, listing_start, listing_step, listing_leads, behind_here, behind_nothing, behind_found, front_last}
use Rattle.coincidence.proofs.crossings.+due_behind.Goals as goal

pub returns-then-count-eq0-clause-due : goal.returns-then-count-eq0-clause-due
returns-then-count-eq0-clause-due t c = behind_here c.args.edges.now.graph c.args.node c.args.count c.args.crossing.now.side.now c.args.crossing.now.side.now c.args.crossing.now.other.now c.due_beyond.result c.if-count-eq0.true c.due_beyond.ensures.due

pub loop-at-init : goal.loop-at-init
loop-at-init t c = record {
  listing = subst (λ z. IsListing c.args.edges.now c.args.node c.letter-letter.result (λ source. IsDueBehind c.args.edges.now.graph source (take (c.args.count - 1) c.args.crossing.now.side.now) c.args.crossing.now.side.now c.args.crossing.now.other.now Nothing) z) (sym c.first_source-at.ensures)
      (listing_start c.letters-letters.result c.args.edges.now c.args.node c.letter-letter.result (λ source. IsDueBehind c.args.edges.now.graph source (take (c.args.count - 1) c.args.crossing.now.side.now) c.args.crossing.now.side.now c.args.crossing.now.other.now Nothing) c.letters-letters.ensures);
  seen = c.requires.seen;
}

pub returns-in_default-due_behind-clause-due : goal.returns-in_default-due_behind-clause-due
returns-in_default-due_behind-clause-due t c =
    let here = subst (λ z. IsListing c.args.edges.now c.args.node c.letter-letter.result (λ source. IsDueBehind c.args.edges.now.graph source (take (c.args.count - 1) c.args.crossing.now.side.now) c.args.crossing.now.side.now c.args.crossing.now.other.now Nothing) z) c.in-Some.is c.loop-at.invariant.listing in
    behind_found c.args.edges.now.graph c.args.node c.in-Some.source c.letter-letter.result (take (c.args.count - 1) c.args.crossing.now.side.now) (take c.args.count c.args.crossing.now.side.now) c.args.crossing.now.side.now c.args.crossing.now.other.now c.due_behind.result
    (front_last c.args.crossing.now.side.now c.args.count c.letter-letter.result c.if-count-eq0.false (omega (arith, c.requires.count, c.requires.place)) c.letter-letter.ensures)
    (listing_leads c.args.edges.now c.args.node c.letter-letter.result (λ source. IsDueBehind c.args.edges.now.graph source (take (c.args.count - 1) c.args.crossing.now.side.now) c.args.crossing.now.side.now c.args.crossing.now.other.now Nothing) c.in-Some.source here)
    (λ e. c.in_default-due_behind.not-Nothing e) c.due_behind.ensures.due

pub loop-at-smaller : goal.loop-at-smaller
loop-at-smaller t c =
    let here = subst (λ z. IsListing c.args.edges.now c.args.node c.letter-letter.result (λ source. IsDueBehind c.args.edges.now.graph source (take (c.args.count - 1) c.args.crossing.now.side.now) c.args.crossing.now.side.now c.args.crossing.now.other.now Nothing) z) c.in-Some.is c.loop-at.invariant.listing in
    rw (c.next_source-at.ensures, c.in-Some.is)
    (listing_step c.args.edges.now c.args.node c.letter-letter.result (λ source. IsDueBehind c.args.edges.now.graph source (take (c.args.count - 1) c.args.crossing.now.side.now) c.args.crossing.now.side.now c.args.crossing.now.other.now Nothing) c.in-Some.source c.in-Nothing.ensures.due here).1

pub loop-at-preserved : goal.loop-at-preserved
loop-at-preserved t c =
    let here = subst (λ z. IsListing c.args.edges.now c.args.node c.letter-letter.result (λ source. IsDueBehind c.args.edges.now.graph source (take (c.args.count - 1) c.args.crossing.now.side.now) c.args.crossing.now.side.now c.args.crossing.now.other.now Nothing) z) c.in-Some.is c.loop-at.invariant.listing in
    record {
      listing = subst (λ z. IsListing c.args.edges.now c.args.node c.letter-letter.result (λ source. IsDueBehind c.args.edges.now.graph source (take (c.args.count - 1) c.args.crossing.now.side.now) c.args.crossing.now.side.now c.args.crossing.now.other.now Nothing) z) (sym c.next_source-at.ensures)
          (listing_step c.args.edges.now c.args.node c.letter-letter.result (λ source. IsDueBehind c.args.edges.now.graph source (take (c.args.count - 1) c.args.crossing.now.side.now) c.args.crossing.now.side.now c.args.crossing.now.other.now Nothing) c.in-Some.source c.in-Nothing.ensures.due here).0;
      seen = c.due_behind.ensures.seen;
    }

pub returns-clause-due : goal.returns-clause-due
returns-clause-due t c =
    let here = subst (λ z. IsListing c.args.edges.now c.args.node c.letter-letter.result (λ source. IsDueBehind c.args.edges.now.graph source (take (c.args.count - 1) c.args.crossing.now.side.now) c.args.crossing.now.side.now c.args.crossing.now.other.now Nothing) z) c.in_default.is c.loop-at.invariant.listing in
    behind_nothing c.args.edges.now c.args.node c.letter-letter.result (take (c.args.count - 1) c.args.crossing.now.side.now) (take c.args.count c.args.crossing.now.side.now) c.args.crossing.now.side.now c.args.crossing.now.other.now
    (front_last c.args.crossing.now.side.now c.args.count c.letter-letter.result c.if-count-eq0.false (omega (arith, c.requires.count, c.requires.place)) c.letter-letter.ensures) here

pub due_beyond-requires-clause-middle : goal.due_beyond-requires-clause-middle
due_beyond-requires-clause-middle t c = c.requires.middle c.args.node (ap (λ z. path c.args.edges.now.graph c.args.node (take z c.args.crossing.now.side.now)) c.if-count-eq0.true)

pub due_behind-requires : goal.due_behind-requires
due_behind-requires t c =
    let here = subst (λ z. IsListing c.args.edges.now c.args.node c.letter-letter.result (λ source. IsDueBehind c.args.edges.now.graph source (take (c.args.count - 1) c.args.crossing.now.side.now) c.args.crossing.now.side.now c.args.crossing.now.other.now Nothing) z) c.in-Some.is c.loop-at.invariant.listing in
    let leads = listing_leads c.args.edges.now c.args.node c.letter-letter.result (λ source. IsDueBehind c.args.edges.now.graph source (take (c.args.count - 1) c.args.crossing.now.side.now) c.args.crossing.now.side.now c.args.crossing.now.other.now Nothing) c.in-Some.source here in (
      omega (arith, c.decreases, c.if-count-eq0.false),
      (
        omega (arith, c.requires.count),
        (
          c.requires.place,
          (
            λ n front. c.requires.middle n (ap (path c.args.edges.now.graph n) (front_last c.args.crossing.now.side.now c.args.count c.letter-letter.result c.if-count-eq0.false (omega (arith, c.requires.count, c.requires.place)) c.letter-letter.ensures)
                ∙ path_more c.args.edges.now.graph n c.in-Some.source (take (c.args.count - 1) c.args.crossing.now.side.now) c.letter-letter.result front ∙ leads),
            (
              c.requires.pair,
              (
                λ n front. c.requires.reached n (ap (path c.args.edges.now.graph n) (front_last c.args.crossing.now.side.now c.args.count c.letter-letter.result c.if-count-eq0.false (omega (arith, c.requires.count, c.requires.place)) c.letter-letter.ensures)
                    ∙ path_more c.args.edges.now.graph n c.in-Some.source (take (c.args.count - 1) c.args.crossing.now.side.now) c.letter-letter.result front ∙ leads),
                c.loop-at.invariant.seen,
              ),
            ),
          ),
        ),
      ),
    )

pub due_beyond-requires-clause-node : goal.due_beyond-requires-clause-node
due_beyond-requires-clause-node t c = c.requires.reached c.args.node (ap (λ z. path c.args.edges.now.graph c.args.node (take z c.args.crossing.now.side.now)) c.if-count-eq0.true)
