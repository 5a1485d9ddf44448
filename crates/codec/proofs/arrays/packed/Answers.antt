use Rattle.std.proofs.Common.{◌≡◌, true, false, ◌-◌, length, take, drop, arith, rules, refl, sym, ◌∙◌, length-drop}
use mathlib.Core.Bool.{true≢false}
use borrow.Author.Tests.{tests}
use Rattle.std.specs.Fn.{FnReturnsAt}
use Rattle.std.specs.List.{list_all}
use Rattle.std.proofs.lemmas.Bool.Decides.{when_true}
use Rattle.std.proofs.lemmas.Iterator.{YieldsList-from_slice, cases_from_all}
use Rattle.std.proofs.lemmas.Iterator.Search.{all_from_yields_List}
use Rattle.std.proofs.lemmas.List.{take_all}
use Rattle.std.proofs.lemmas.List.Sums.{AllPass-from_list_all, list_all-from_AllPass}
use Rattle.codec.proofs.PackedLaws.{packed_by, packed_used, packed_unused, unfailed}
use Rattle.codec.proofs.arrays.packed.Goals as goal
use Rattle.codec.proofs.arrays.packed.Goals.{then-count-items, else-count-items}
use Rattle.codec.proofs.arrays.packed.Goals.{then-all, else-all}

pub returns-clause-yes : goal.returns-clause-yes
returns-clause-yes g c =
    let s = c.args.items.now in
    let Yes = λ (x : g.row.T.Denot). FnReturnsAt g.F.Fn c.args.fits x true in
    let No = λ (x : g.row.T.Denot). FnReturnsAt g.F.Fn c.args.fits x false in
    let Blank = λ (x : g.row.T.Denot). g.T.PartialEq.eq x c.args.blank in
    elim c.if-count-items.branch [
      | then-count-items v ↦
          let rest : take (length s - c.args.count) (drop c.args.count s) ≡ drop c.args.count s =
          take_all _ _ (omega (arith, length-drop c.args.count s)) in
          let used =
          cases_from_all _ _ v.all.result Yes No v.all.ensures.ran (YieldsList-from_slice _ v.iter.ensures.rest)
          (λ x q k. (search rules, record { shown = x; shows = refl; says = record { met = search rules } }))
          (λ x q k. record { shown = x; shows = refl; says = record { met = search rules } }) in
          elim c.if-all.branch [
            | then-all w ↦
                let unused : w.all-then-all.result ≡ list_all Blank (drop c.args.count s) =
                all_from_yields_List Blank _ _ w.all-then-all.result w.all-then-all.ensures.ran
                (YieldsList-from_slice _ (w.iter-then-all.ensures.rest ∙ rest)) (λ x b q k. search (rules, tests)) in
                λ e.
                packed_by v.if-count-items.true
                (λ k d l. when_true _ _ (sym v.value-is ∙ w.if-all.true) used k d (omega arith) l)
                (λ k d l. (c.requires.exact _ _).0 (AllPass-from_list_all _ _ (sym unused ∙ sym w.result-is ∙ e) k d l))
            | else-all w ↦ λ e. absurd (true≢false (sym e ∙ w.result-is ∙ w.if-all.false))
          ]
      | else-count-items v ↦
          let none : c.if-count-items.value ≡ false = search (rules, tests) in
          elim c.if-all.branch [
            | then-all w ↦ λ e. absurd (true≢false (sym w.if-all.true ∙ none))
            | else-all w ↦ λ e. absurd (true≢false (sym e ∙ w.result-is ∙ none))
          ]
    ]

pub returns-clause-no : goal.returns-clause-no
returns-clause-no g c =
    let s = c.args.items.now in
    let Yes = λ (x : g.row.T.Denot). FnReturnsAt g.F.Fn c.args.fits x true in
    let No = λ (x : g.row.T.Denot). FnReturnsAt g.F.Fn c.args.fits x false in
    let Blank = λ (x : g.row.T.Denot). g.T.PartialEq.eq x c.args.blank in
    elim c.if-count-items.branch [
      | then-count-items v ↦
          let rest : take (length s - c.args.count) (drop c.args.count s) ≡ drop c.args.count s =
          take_all _ _ (omega (arith, length-drop c.args.count s)) in
          let used =
          cases_from_all _ _ v.all.result Yes No v.all.ensures.ran (YieldsList-from_slice _ v.iter.ensures.rest)
          (λ x q k. (search rules, record { shown = x; shows = refl; says = record { met = search rules } }))
          (λ x q k. record { shown = x; shows = refl; says = record { met = search rules } }) in
          elim c.if-all.branch [
            | then-all w ↦
                let unused : w.all-then-all.result ≡ list_all Blank (drop c.args.count s) =
                all_from_yields_List Blank _ _ w.all-then-all.result w.all-then-all.ensures.ran
                (YieldsList-from_slice _ (w.iter-then-all.ensures.rest ∙ rest)) (λ x b q k. search (rules, tests)) in
                λ p.
                w.result-is ∙ unused
                ∙ list_all-from_AllPass Blank (drop c.args.count s)
                (λ k d l. (c.requires.exact _ _).1 (packed_unused p d l))
            | else-all w ↦
                λ p.
                let passed =
                unfailed Yes No c.args.blank (take c.args.count s) v.all.result used
                (λ k l n. packed_used p c.args.blank l n) in
                absurd (true≢false (sym passed ∙ sym v.value-is ∙ w.if-all.false))
          ]
      | else-count-items v ↦ λ p. absurd (omega (arith, p.few))
    ]
