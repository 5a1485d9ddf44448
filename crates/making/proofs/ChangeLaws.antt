-- A vector changed: what the seven words of the code hold.
use mathlib.Core.List.{List, [], ◌∷◌, ◌++◌, map}
use mathlib.Core.Bool.{Bool, true, false}
use mathlib.Core.Path.{◌≡◌, refl, sym, ◌∙◌, ap, subst}
use Prim.Native.Nat.{ℕ, suc, ◌+◌, ◌≤◌, ◌<◌}
use native.Mathlib.Decide.{ℕ_discrete}
use native.Mathlib.Omega.{arith}
use lib.IntN.{ℤ, pos, negsuc}
use lib.ListN.{length, get_or, set, take, drop, replicate}
use lib.ListN.{length-map, length-set, length-append, length-drop, get_or-append}
use lib.Seq.{get_or-take, get_or-set_same, get_or-set_other, get_or-append-add, length-take-le, ext_get_or}
use mir.Syntax.{w32}
use mir.Val.{SFits}
use Rattle.numbers.specs.Numbers.{Num, −∞, fin, ◌⊗◌, Within, nought, million}
use Rattle.numbers.specs.Words.{mark, is_mark, number}
use Rattle.numbers.specs.Places.{entries, Ended}
use Rattle.numbers.proofs.NumberLaws.{wider, ⊗_within}
use Rattle.numbers.proofs.WordLaws.{number_mark}
use Rattle.algebra.specs.Vectors.{Vector, entry}
use Rattle.algebra.specs.Working.{to_ray, reset_vector}
use Rattle.sets.specs.Limits.{Between}
use Rattle.sets.proofs.FlatLaws.{number_at}
use Rattle.making.specs.Limits.{ResetLimits}
use Rattle.making.specs.Change.{Changeable, Changes}
use Rattle.making.proofs.PushLaws.{words_entry}

-- seven words hold a vector whose entries they have
module _ (n : ℕ) (v words : List ℤ) (p : Changeable n v) (long : length words ≡ 7) where
  part : length (take (suc n) words) ≡ suc n
  part = length-take-le (suc n) words (omega (arith, p.clocks))

  at : (j : ℕ) → j < suc n → entries (take (suc n) words) j ≡ entries words j
  at j l = ap number (get_or-take (suc n) words j (pos 0) l)

  -- seven words are a vector if their first n + 1 entries are its entries, and within limits
  pub changes_by : (u : Vector) → length u ≡ suc n
      → ((j : ℕ) → j < suc n → entries words j ≡ entry u j) → ((j : ℕ) → j < suc n → Within 10000000 (entries words j))
      → Changes n u words
  changes_by u e same near = record {
    long = long;
    right = ext_get_or −∞ (map number (take (suc n) words)) u (length-map (take (suc n) words) number ∙ part ∙ sym e)
        (λ j l. let b : j < suc n = omega (arith, length-map (take (suc n) words) number, part) in
        number_at (take (suc n) words) j (omega (arith, part)) ∙ at j b ∙ same j b);
    near = record {
      each = λ j l. let b : j < suc n = omega (arith, part) in
          subst (λ (x : Num). Within 10000000 x) (sym (at j b)) (near j b);
    };
  }

-- the words copied into seven zeros
module _ (n : ℕ) (v words : List ℤ) (h : n ≤ 6) (e : length v ≡ suc n)
    (joined : words ≡ v ++ drop (n + 1) (replicate 7 (pos 0))) where
  -- there are seven of them
  pub copied_long : length words ≡ 7
  copied_long = ap length joined ∙ length-append v (drop (n + 1) (replicate 7 (pos 0)))
      ∙ omega (arith, length-drop (n + 1) (replicate 7 (pos 0)))

  -- the first n + 1 are those of the vector
  pub copied_at : (j : ℕ) → j < suc n → get_or words j (pos 0) ≡ get_or v j (pos 0)
  copied_at j l = ap (λ (w : List ℤ). get_or w j (pos 0)) joined
      ∙ get_or-append v (drop (n + 1) (replicate 7 (pos 0))) (pos 0) j (omega arith)

-- a vector that becomes a ray
pub changes_ray : (n : ℕ) (v words : List ℤ) → Changeable n v → Ended (take n v) mark words
    → Changes n (to_ray n (map number v)) words
changes_ray n v words p m = changes_by n v words p m.long (set (map number v) n −∞)
    (length-set (map number v) n −∞ ∙ length-map v number ∙ p.long) (λ j l. same j l (ℕ_discrete j n))
    (λ j l. near j l (ℕ_discrete j n))
  where
    front : length (take n v) ≡ n
    front = length-take-le n v (omega (arith, p.long))

    last : entries words n ≡ −∞
    last = ap number (m.same n
        ∙ subst (λ (k : ℕ). get_or (take n v ++ (mark ∷ [])) k (pos 0) ≡ mark) (front')
        (get_or-append-add (take n v) (mark ∷ []) 0 (pos 0))) ∙ number_mark
      where
        front' : length (take n v) + 0 ≡ n
        front' = omega (arith, front)

    clock : (j : ℕ) → j < n → get_or words j (pos 0) ≡ get_or v j (pos 0)
    clock j l = m.same j ∙ get_or-append (take n v) (mark ∷ []) (pos 0) j (omega (arith, front))
        ∙ get_or-take n v j (pos 0) l

    same : (j : ℕ) → j < suc n → Dec (j ≡ n) → entries words j ≡ entry (set (map number v) n −∞) j
    same j l (yes e) = subst (λ (k : ℕ). entries words k ≡ entry (set (map number v) n −∞) k) (sym e)
        (last ∙ sym (get_or-set_same (map number v) n −∞ −∞ (omega (arith, length-map v number, p.long))))
    same j l (no ne) = ap number (clock j (omega arith)) ∙ sym (words_entry n v p.long j l)
        ∙ sym (get_or-set_other (map number v) n j −∞ −∞ ne)

    near : (j : ℕ) → j < suc n → Dec (j ≡ n) → Within 10000000 (entries words j)
    near j l (yes e) = subst (λ (k : ℕ). Within 10000000 (entries words k)) (sym e) (rw last (record { near = tt }))
    near j l (no ne) = subst (λ (z : ℤ). Within 10000000 (number z)) (sym (clock j (omega arith)))
        (wider (omega arith) (p.near.each j (omega (arith, p.long))))

-- a value within limits is not −∞
pub value_fin : (c : ℤ) → Between nought million (number c) → number c ≡ fin c
unfolding number
value_fin (pos k) h = refl
value_fin (negsuc k) h = go (is_mark (negsuc k)) refl
  where
    go : (t : Bool) → is_mark (negsuc k) ≡ t → number (negsuc k) ≡ fin (negsuc k)
    go true e = absurd (rw e at h.low).le
    go false e = rw e

-- it is between −1,000,000 and 1,000,000
pub value_near : (c : ℤ) → Between nought million (number c) → Within 1000000 (fin c)
value_near c h =
    let l = rw (value_fin c h) at h.low in let u = rw (value_fin c h) at h.high in by c l.le u.le
  where
    by : (z : ℤ) → Rattle.numbers.specs.Numbers.Le nought (fin z) → Rattle.numbers.specs.Numbers.Le (fin z) million
        → Within 1000000 (fin z)
    by (pos k) a b = record { near = omega arith }
    by (negsuc k) a b = record { near = omega arith }

-- a vector whose clock is replaced: x is the value at a point, −∞ at a ray
pub changes_replace : (n i : ℕ) (c x : ℤ) (v words : List ℤ) → Changeable n v → ResetLimits n i c
    → words ≡ v ++ drop (n + 1) (replicate 7 (pos 0)) → number x ≡ number c ⊗ entries v n
    → Changes n (reset_vector n i c (map number v)) (set words i x)
changes_replace n i c x v words p limits is e = changes_by n v (set words i x) p (length-set words i x ∙ long)
    (set (map number v) i (fin c ⊗ entry (map number v) n))
    (length-set (map number v) i (fin c ⊗ entry (map number v) n) ∙ length-map v number ∙ p.long)
    (λ j l. same j l (ℕ_discrete j i)) (λ j l. near j l (ℕ_discrete j i))
  where
    long : length words ≡ 7
    long = copied_long n v words p.clocks p.long is

    new : number x ≡ fin c ⊗ entry (map number v) n
    new = e ∙ rw (value_fin c limits.value)
        (ap (λ (y : Num). fin c ⊗ y) (sym (words_entry n v p.long n (omega arith))))

    same : (j : ℕ) → j < suc n → Dec (j ≡ i)
        → entries (set words i x) j ≡ entry (set (map number v) i (fin c ⊗ entry (map number v) n)) j
    same j l (yes q) =
        subst (λ (k : ℕ). entries (set words i x) k ≡ entry (set (map number v) i (fin c ⊗ entry (map number v) n)) k)
        (sym q)
        (ap number (get_or-set_same words i x (pos 0) (omega (arith, long))) ∙ new
        ∙ sym (get_or-set_same (map number v) i (fin c ⊗ entry (map number v) n) −∞
        (omega (arith, length-map v number, p.long, limits.clock))))
    same j l (no q) =
        ap number (get_or-set_other words i j x (pos 0) q ∙ copied_at n v words p.clocks p.long is j l)
        ∙ sym (words_entry n v p.long j l)
        ∙ sym (get_or-set_other (map number v) i j (fin c ⊗ entry (map number v) n) −∞ q)

    near : (j : ℕ) → j < suc n → Dec (j ≡ i) → Within 10000000 (entries (set words i x) j)
    near j l (yes q) = subst (λ (k : ℕ). Within 10000000 (entries (set words i x) k)) (sym q)
        (subst (λ (z : ℤ). Within 10000000 (number z)) (sym (get_or-set_same words i x (pos 0) (omega (arith, long))))
        (subst (λ (y : Num). Within 10000000 y) (sym (e ∙ rw (value_fin c limits.value)))
        (wider {k = 2000000} (omega arith)
        (⊗_within {x = fin c} (value_near c limits.value) (p.near.each n (omega (arith, p.long)))))))
    near j l (no q) = subst (λ (z : ℤ). Within 10000000 (number z))
        (sym (get_or-set_other words i j x (pos 0) q ∙ copied_at n v words p.clocks p.long is j l))
        (wider (omega arith) (p.near.each j (omega (arith, p.long))))

-- and fits a word
pub value_fits : (c : ℤ) → Between nought million (number c) → SFits w32 c
value_fits c h = by c (value_near c h)
  where
    by : (z : ℤ) → Within 1000000 (fin z) → SFits w32 z
    by (pos k) w = record { sfits = omega (arith, w.near) }
    by (negsuc k) w = record { sfits = omega (arith, w.near) }
