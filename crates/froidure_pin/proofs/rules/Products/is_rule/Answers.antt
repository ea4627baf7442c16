use Rattle.std.proofs.Common.{◌≡◌, ℕ, ◌+◌, ◌*◌, ◌<◌, ◌/◌, ◌%◌, ◌==◌, ◌∙◌, false, List, length, get_or, sym, ap, subst, arith, eq-eqb, ne_eqb}
use Rattle.froidure_pin.specs.Found.{entry}
use Rattle.froidure_pin.specs.Rules.{is_product}
use Rattle.froidure_pin.proofs.OneShape.{get_any}
use Rattle.froidure_pin.proofs.RuleSteps.{row_of_place, entry_within, letter_rule, no_rule, rule_test}
use Rattle.froidure_pin.proofs.rules.Products.is_rule.Goals as goal
use Rattle.froidure_pin.specs.declared.parts.Factor.{Factor}

read_zero : (suffixes : List ℕ) (j s : ℕ) → j < length suffixes → s ≡ get_or suffixes j s → s ≡ get_or suffixes j 0
read_zero suffixes j s h e = e ∙ get_any suffixes j s 0 h

pub entry-rest-requires : goal.entry-rest-requires
entry-rest-requires c =
    let k : ℕ = c.args.self.now.letters in
    let p : ℕ = c.args.place in
    let row = row_of_place k (length c.args.self.now.factors.now.items) p c.requires.products.some (omega (arith, c.requires.within, c.requires.products.rows.count)) in
    let inside : p / k < length c.args.suffixes.now.items = omega (arith, c.requires.suffixes.count, row.0) in
    subst (λ s. s * k + p % k < length c.args.self.now.right.now.items) (sym (read_zero c.args.suffixes.now.items (p / k) c.index-suffix.result.now inside c.index-suffix.ensures)) (entry_within k c.args.self.now.factors.now.items c.args.self.now.right.now.items c.requires.products.rows c.args.suffixes.now.items (length c.args.self.now.factors.now.items) (p / k) (p % k) c.requires.suffixes inside row.1)

-- the number at the place is that of a word
pub is_product-requires : goal.is_product-requires
is_product-requires c =
    let here : c.index.result.now ≡ get_or c.args.self.now.right.now.items c.args.place 0 = read_zero c.args.self.now.right.now.items c.args.place c.index.result.now c.requires.within c.index.ensures in
    omega (arith, here, c.requires.products.rows.within c.args.place c.requires.within)

pub is_product-requires-2 : goal.is_product-requires-2
is_product-requires-2 c =
    let k : ℕ = c.args.self.now.letters in
    let p : ℕ = c.args.place in
    let row = row_of_place k (length c.args.self.now.factors.now.items) p c.requires.products.some (omega (arith, c.requires.within, c.requires.products.rows.count)) in
    let inside : p / k < length c.args.suffixes.now.items = omega (arith, c.requires.suffixes.count, row.0) in
    let within = entry_within k c.args.self.now.factors.now.items c.args.self.now.right.now.items c.requires.products.rows c.args.suffixes.now.items (length c.args.self.now.factors.now.items) (p / k) (p % k) c.requires.suffixes inside row.1 in
    let suffix : c.index-suffix.result.now ≡ get_or c.args.suffixes.now.items (p / k) 0 = read_zero c.args.suffixes.now.items (p / k) c.index-suffix.result.now inside c.index-suffix.ensures in
    let at : c.entry-rest.result ≡ entry k c.args.self.now.right.now.items (get_or c.args.suffixes.now.items (p / k) 0) (p % k) = c.entry-rest.ensures ∙ ap (λ s. entry k c.args.self.now.right.now.items s (p % k)) suffix in
    omega (arith, at, c.requires.products.rows.within (get_or c.args.suffixes.now.items (p / k) 0 * k + p % k) within)

pub returns-then-is_product : goal.returns-then-is_product
returns-then-is_product c =
    let k : ℕ = c.args.self.now.letters in
    let p : ℕ = c.args.place in
    let right : List ℕ = c.args.self.now.right.now.items in
    let here : c.index.result.now ≡ get_or right p 0 = read_zero right p c.index.result.now c.requires.within c.index.ensures in
    no_rule _ _ (ap (λ m. is_product c.args.self.now.factors.now.items m (p / k) (p % k)) (sym here) ∙ sym c.is_product.ensures ∙ c.if-is_product.true)

pub returns-then-parent-eq0 : goal.returns-then-parent-eq0
returns-then-parent-eq0 c =
    let k : ℕ = c.args.self.now.letters in
    let p : ℕ = c.args.place in
    let right : List ℕ = c.args.self.now.right.now.items in
    let here : c.index.result.now ≡ get_or right p 0 = read_zero right p c.index.result.now c.requires.within c.index.ensures in
    letter_rule _ _ _ (ap (λ m. is_product c.args.self.now.factors.now.items m (p / k) (p % k)) (sym here) ∙ sym c.is_product.ensures ∙ c.if-is_product.false) (eq-eqb (p / k) 0 c.if-parent-eq0.true)

pub returns : goal.returns
returns c =
    let k : ℕ = c.args.self.now.letters in
    let p : ℕ = c.args.place in
    let factors : List Factor = c.args.self.now.factors.now.items in
    let right : List ℕ = c.args.self.now.right.now.items in
    let s : ℕ = get_or c.args.suffixes.now.items (p / k) 0 in
    let row = row_of_place k (length factors) p c.requires.products.some (omega (arith, c.requires.within, c.requires.products.rows.count)) in
    let inside : p / k < length c.args.suffixes.now.items = omega (arith, c.requires.suffixes.count, row.0) in
    let suffix : c.index-suffix.result.now ≡ s = read_zero c.args.suffixes.now.items (p / k) c.index-suffix.result.now inside c.index-suffix.ensures in
    let here : c.index.result.now ≡ get_or right p 0 = read_zero right p c.index.result.now c.requires.within c.index.ensures in
    let first : is_product factors (get_or right p 0) (p / k) (p % k) ≡ false = ap (λ m. is_product factors m (p / k) (p % k)) (sym here) ∙ sym c.is_product.ensures ∙ c.if-is_product.false in
    let second : (p / k == 0) ≡ false = ne_eqb (p / k) 0 c.if-parent-eq0.false in
    let third : c.is_product-2.result ≡ is_product factors (entry k right s (p % k)) s (p % k) = c.is_product-2.ensures ∙ ap (λ m. is_product factors m c.index-suffix.result.now (p % k)) c.entry-rest.ensures ∙ ap (λ n. is_product factors (entry k right n (p % k)) n (p % k)) suffix in
    rule_test (is_product factors (get_or right p 0) (p / k) (p % k)) (p / k == 0) (is_product factors (entry k right s (p % k)) s (p % k)) c.is_product-2.result first second third
