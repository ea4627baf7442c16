use Rattle.std.proofs.Common.{rules, ◌≡◌, false, true, sym, subst}
use Rattle.std.proofs.lemmas.Result.{IfOk-weaker}
use Rattle.word_graph.specs.Walk.{AreLeastWords}
use Rattle.problem.specs.Problem.{count_of}
use Rattle.congruence_classes.specs.ClassLists.{AreOrderedWords, reads_backwards}
use Rattle.congruence_classes.proofs.ClassListLaws.{ordered_forwards}
use Rattle.congruence_classes.proofs.ReversedWords.{ordered_backwards, sorted_by_words}
use Rattle.congruence_classes.proofs.cosets.ordered_words.Goals as goal

pub returns-then-not-reads_backwards : goal.returns-then-not-reads_backwards
returns-then-not-reads_backwards c =
    let forwards : reads_backwards c.args.problem.now ≡ false = search rules in
    IfOk-weaker c.least_words.result (λ least. AreLeastWords c.args.graph.now least.items)
    (λ least. AreOrderedWords c.args.graph.now (reads_backwards c.args.problem.now) least.items)
    (λ least are. subst (λ b. AreOrderedWords c.args.graph.now b least.items) (sym forwards)
    (ordered_forwards (count_of c.args.problem.now) c.args.graph.now c.requires.0.graph c.requires.1 c.requires.0.reached least.items are))
    c.least_words.ensures

pub returns : goal.returns
returns c =
    let backwards : reads_backwards c.args.problem.now ≡ true = search rules in
    subst (λ b. AreOrderedWords c.args.graph.now b c.sort_by.new.self.items) (sym backwards)
    (ordered_backwards (count_of c.args.problem.now) c.args.graph.now c.in_ok-least_reversed.field-0.items c.in_ok-least.least.items
    c.sort_by.new.self.items c.requires.0.graph c.in_ok-least_reversed.ensures c.in_ok-least.ensures c.in_ok-sort_by.ensures.permutation
    (sorted_by_words c.sort_by.new.self.items c.in_ok-sort_by.ensures.sorted (λ a r q k. search rules)))
