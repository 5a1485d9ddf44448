-- The working list of a half-space has exactly the vectors of the cut family.
use mathlib.Core.Bool.{Bool, true, false, cond}
use mathlib.Core.List.{List, [], ◌∷◌}
use mathlib.Core.Logic.{◌⊎◌, inl, inr}
use mathlib.Core.Path.{◌≡◌, refl, sym, ◌∙◌, ap}
use Prim.Native.Nat.{ℕ, suc}
use lib.ListN.{length}
use Rattle.numbers.specs.Places.{Vec, side_of}
use Rattle.numbers.proofs.Tells.{Tells, passes, fails}
use Rattle.numbers.proofs.NumberLaws.{tells_at_most}
use Rattle.algebra.specs.Vectors.{Vector, entry, vector}
use Rattle.algebra.specs.Working.{side_at, satisfies, crossing, crossings, intersect_list}
use Rattle.algebra.proofs.Entries.{Same}
use Rattle.algebra.proofs.Residuation.{Row}
use Rattle.algebra.proofs.HalfSpace.{Sat, mixed, Cut, keep, mix, cut}
use Rattle.algebra.proofs.Lists.{listed, tab_at}
use Rattle.making.proofs.Members.{Has, has_none, has_cons, has_head, has_tail, has_each}

module _ (n : ℕ) (ab cd : Vector) where
  -- the test tells whether a vector satisfies the half-space
  pub tells_satisfies : (v : Vector) → Tells (satisfies n ab cd v) (Sat (suc n) (entry ab) (entry cd) (entry v))
  unfolding satisfies side_at
  tells_satisfies v = tells_at_most (side_of (suc n) (entry ab) (entry v)) (side_of (suc n) (entry cd) (entry v))

  -- the crossing of two vectors is their mixture
  pub crossing_at : (g h : Vector)
      → Same (suc n) (entry (crossing n ab cd g h)) (mixed (suc n) (entry ab) (entry cd) (entry g) (entry h))
  unfolding crossing side_at
  crossing_at g h j l = sym (tab_at (suc n) (mixed (suc n) (entry ab) (entry cd) (entry g) (entry h)) j l)

  module _ (L : List Vector) where
    -- the indices of the list's cut family
    abbrev pub CutOf : Type 0
    CutOf = Cut (suc n) (entry ab) (entry cd) (listed L)

    -- the vectors of the list's cut family
    abbrev pub cut_of : CutOf → Vec
    cut_of = cut (suc n) (entry ab) (entry cd) (listed L)

    -- the vectors that come of a satisfying vector g and of each violating one
    crossed : Vector → Vector → List Vector
    crossed g h = cond (satisfies n ab cd h) [] (crossing n ab cd g h ∷ [])

    started : Vector → List Vector
    started g = cond (satisfies n ab cd g) (g ∷ crossings n ab cd L g) []

    -- where a vector of the working list comes from
    pub data Arises (v : Vector) : Type 0 where
      stays : (i : Row (length L)) → Sat (suc n) (entry ab) (entry cd) (listed L i) → vector L i.0 ≡ v → Arises v
      crosses : (i k : Row (length L)) → Sat (suc n) (entry ab) (entry cd) (listed L i)
          → ¬ Sat (suc n) (entry ab) (entry cd) (listed L k)
          → crossing n ab cd (vector L i.0) (vector L k.0) ≡ v → Arises v

    -- each vector of the working list is a satisfying vector or the crossing of one with a violating one
    pub arises : (v : Vector) → Has (intersect_list n ab cd L) v → Arises v
    unfolding intersect_list crossings crossed started
    arises v r =
        let m = (has_each started L v).0 r in
        let g = vector L m.place in
        one (m.place, m.inside) (satisfies n ab cd g) (tells_satisfies g) m.among
      where
        two : (i k : Row (length L)) → Sat (suc n) (entry ab) (entry cd) (listed L i)
            → (b : Bool) → Tells b (Sat (suc n) (entry ab) (entry cd) (listed L k))
            → Has (cond b [] (crossing n ab cd (vector L i.0) (vector L k.0) ∷ [])) v → Arises v
        two i k s true t r = absurd (has_none r)
        two i k s false t r = by (has_cons r)
          where
            by : (crossing n ab cd (vector L i.0) (vector L k.0) ≡ v) ⊎ Has [] v → Arises v
            by (inl e) = crosses i k s (t.no refl) e
            by (inr r) = absurd (has_none r)

        one : (i : Row (length L)) (b : Bool) → Tells b (Sat (suc n) (entry ab) (entry cd) (listed L i))
            → Has (cond b (vector L i.0 ∷ crossings n ab cd L (vector L i.0)) []) v → Arises v
        one i false t r = absurd (has_none r)
        one i true t r = by (has_cons r)
          where
            by : (vector L i.0 ≡ v) ⊎ Has (crossings n ab cd L (vector L i.0)) v → Arises v
            by (inl e) = stays i (t.yes refl) e
            by (inr r) =
                let m = (has_each (crossed (vector L i.0)) L v).0 r in
                let h = vector L m.place in
                two i (m.place, m.inside) (t.yes refl) (satisfies n ab cd h) (tells_satisfies h) m.among

    -- so it is in the cut family
    pub list_cut : (v : Vector) → Has (intersect_list n ab cd L) v → (u : CutOf) × Same (suc n) (entry v) (cut_of u)
    list_cut v r = by (arises v r)
      where
        by : Arises v → (u : CutOf) × Same (suc n) (entry v) (cut_of u)
        by (stays i s e) = (keep i s, λ j l. ap (λ u. entry u j) (sym e))
        by (crosses i k s t e) = (
          mix i k s t,
          λ j l. ap (λ u. entry u j) (sym e) ∙ crossing_at (vector L i.0) (vector L k.0) j l,
        )

    -- each vector of the cut family is in the working list
    pub cut_list : (u : CutOf) → (v : Vector) × Has (intersect_list n ab cd L) v × Same (suc n) (entry v) (cut_of u)
    unfolding intersect_list crossings crossed started
    cut_list (keep i s) = (
      vector L i.0,
      (has_each started L (vector L i.0)).1 (record {
        place = i.0;
        inside = i.1;
        among = rw (passes (tells_satisfies (vector L i.0)) s) (has_head refl);
      }),
      λ j l. refl,
    )
    cut_list (mix i k s t) = (
      c,
      (has_each started L c).1 (record {
        place = i.0;
        inside = i.1;
        among = rw (passes (tells_satisfies (vector L i.0)) s) (has_tail crossing_in);
      }),
      crossing_at (vector L i.0) (vector L k.0),
    )
      where
        c : Vector
        c = crossing n ab cd (vector L i.0) (vector L k.0)

        crossing_in : Has (crossings n ab cd L (vector L i.0)) c
        crossing_in = (has_each (crossed (vector L i.0)) L c).1 (record {
          place = k.0;
          inside = k.1;
          among = rw (fails (tells_satisfies (vector L k.0)) t) (has_head refl);
        })
