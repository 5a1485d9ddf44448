-- The exported calls' contracts settle the number, the counts and every lent word.
use mathlib.Core.List.{List}
use mathlib.Core.Path.{◌≡◌, sym, ap, ◌∙◌}
use Prim.Native.Nat.{ℕ}
use lib.IntN.{ℤ}
use Rattle.sets.specs.Types.{Told}
use Rattle.sets.proofs.Asking.{contains_settled, included_settled}
use Rattle.making.specs.Types.{Made}
use Rattle.making.proofs.Settled.{intersect_settled, delay_settled, reset_settled, hull_settled}
use Rattle.runs.specs.Verdicts.{Answer, answer_by}
use Rattle.walk.proofs.Theorems.{walk_settled}
use Rattle.answer.proofs.Theorems.{answer_settled}
use Rattle.exports.specs.Exported.{answer_number, counts_of, Numbered, ContainsNumbered, IncludedNumbered}
use Rattle.exports.specs.Exported.{IntersectsNumbered, DelaysNumbered, ResetsNumbered, HullsNumbered}
use Rattle.exports.specs.Exported.{Rewritten, Rewrites, WalksNumbered, PrintsNumbered}

-- where a call's answers are settled beside some fact, so are their numbers
pub numbers_settled : (A : Type 0) (C D : A → Type 0) (number : A → ℤ) (fact : Type 0) (r q : ℤ)
    → ((a b : A) → C a → D b → (a ≡ b) × fact) → Numbered A C number r → Numbered A D number q → (r ≡ q) × fact
numbers_settled A C D number fact r q settled v w =
    let both = settled v.answer w.answer v.gives w.gives in
    (v.is ∙ ap number both.0 ∙ sym w.is, both.1)

pub contains_numbered : (n : ℕ) (l p : List ℤ) (r q : ℤ) → ContainsNumbered n l p r → ContainsNumbered n l p q → r ≡ q
contains_numbered n l p r q v w =
    (numbers_settled Told _ _ _ Unit r q (λ a b x y. (contains_settled n l p a b x y, tt)) v w).0

pub included_numbered : (n : ℕ) (l m : List ℤ) (r q : ℤ) → IncludedNumbered n l m r → IncludedNumbered n l m q → r ≡ q
included_numbered n l m r q v w =
    (numbers_settled Told _ _ _ Unit r q (λ a b x y. (included_settled n l m a b x y, tt)) v w).0

pub intersect_numbered : (n : ℕ) (l h area : List ℤ) (r q : ℤ) (after last : List ℤ)
    → IntersectsNumbered n l h area r after → IntersectsNumbered n l h area q last → (r ≡ q) × (after ≡ last)
intersect_numbered n l h area r q after last v w =
    numbers_settled Made _ _ _ _ r q (λ a b x y. intersect_settled n l h area a b after last x y) v w

pub delay_numbered : (n : ℕ) (l area : List ℤ) (r q : ℤ) (after last : List ℤ)
    → DelaysNumbered n l area r after → DelaysNumbered n l area q last → (r ≡ q) × (after ≡ last)
delay_numbered n l area r q after last v w =
    numbers_settled Made _ _ _ _ r q (λ a b x y. delay_settled n l area a b after last x y) v w

pub reset_numbered : (n : ℕ) (l : List ℤ) (i : ℕ) (c : ℤ) (area : List ℤ) (r q : ℤ) (after last : List ℤ)
    → ResetsNumbered n l i c area r after → ResetsNumbered n l i c area q last → (r ≡ q) × (after ≡ last)
reset_numbered n l i c area r q after last v w =
    numbers_settled Made _ _ _ _ r q (λ a b x y. reset_settled n l i c area a b after last x y) v w

pub hull_numbered : (n : ℕ) (l m area : List ℤ) (r q : ℤ) (after last : List ℤ)
    → HullsNumbered n l m area r after → HullsNumbered n l m area q last → (r ≡ q) × (after ≡ last)
hull_numbered n l m area r q after last v w =
    numbers_settled Made _ _ _ _ r q (λ a b x y. hull_settled n l m area a b after last x y) v w

pub rewrite_numbered : (s before : List ℕ) (r q : ℤ) (after last : List ℕ) → Rewrites s before r after
    → Rewrites s before q last → (r ≡ q) × (after ≡ last)
rewrite_numbered s before r q after last v w =
    let e = v ∙ sym w in (ap (λ (x : Rewritten). x.number) e, ap (λ (x : Rewritten). x.area) e)

pub walk_numbered : (s : List ℕ) (before : List ℤ) (earlier : List ℕ) (r q : ℤ) (after last : List ℤ)
    (counts others : List ℕ) → WalksNumbered s before earlier r after counts
    → WalksNumbered s before earlier q last others → (r ≡ q) × (after ≡ last) × (counts ≡ others)
walk_numbered s before earlier r q after last counts others v w =
    let both = walk_settled s before v.verdict w.verdict after last v.gives w.gives in
    let answers = ap answer_by both.0 in (
      v.is ∙ ap answer_number answers ∙ sym w.is,
      both.1,
      v.counted ∙ ap (λ (a : Answer). counts_of a earlier) answers ∙ sym w.counted,
    )

pub print_numbered : (s : List ℕ) (area : List ℤ) (text : List ℕ) (r q : ℤ) (after last : List ℤ)
    (text' text'' : List ℕ) → PrintsNumbered s area text r after text' → PrintsNumbered s area text q last text''
    → (r ≡ q) × (after ≡ last) × (text' ≡ text'')
print_numbered s area text r q after last text' text'' v w =
    let both = numbers_settled ℕ _ _ _ ((after ≡ last) × (text' ≡ text'')) r q
    (λ a b x y. let t = answer_settled s area text a b after last text' text'' x y in (t.0, (t.1, t.2))) v w in
    (both.0, both.1.0, both.1.1)
