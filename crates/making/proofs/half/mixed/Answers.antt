use mathlib.Core.Path.{◌≡◌, sym, ◌∙◌, subst}
use mathlib.Core.List.{[], ◌∷◌, ◌++◌, List, map}
use Prim.Native.Nat.{◌+◌, ℕ, suc}
use native.Mathlib.Numerals.{add-one}
use lib.ListN.{length, take}
use lib.Seq.{take_at}
use lib.IntN.{ℤ}
use mir.Facts.{to_z-of_z}
use mir.Val.{SFits, to_z, of_z}
use mir.Syntax.{w32}
use Rattle.numbers.specs.Words.{number}
use Rattle.numbers.specs.Places.{Mixed}
use Rattle.algebra.specs.Vectors.{Vector}
use Rattle.making.specs.Work.{Grown, Mixable, Pushable, Pushed, mixed_of}
use Rattle.making.proofs.BuildLaws.{grown_one}
use Rattle.making.proofs.HalfLaws.{mixed_words, mixed_near, copied_part, mixed_long}
use Rattle.making.proofs.half.mixed.Goals as goal

module _ {n k : ℕ} {work g h copy out : List ℤ} {l r : ℤ} (p : Mixable n work k g l h r)
    (fits_l : SFits w32 l) (fits_r : SFits w32 r) (copied : copy ≡ g) (rest : List ℤ)
    (mixed : Mixed (take (n + 1) (copy ++ rest)) (number (to_z w32 (of_z w32 l))) h (number (to_z w32 (of_z w32 r))) out)
  where
    -- what stands in the row after mixing
    mixes : Mixed g (number l) h (number r) out
    mixes = rw (copied, copied_part n g rest p.long_g, to_z-of_z fits_l, to_z-of_z fits_r) at mixed

    long : length out ≡ suc n
    long = mixed_long n g h out (number l) (number r) p.long_g p.long_h mixes

    -- the row lent is what mixing made
    lent : (behind : List ℤ) → take (n + 1) (out ++ behind) ≡ out
    lent behind = take_at out behind (n + 1) (long ∙ sym (add-one n))

    -- it can be put behind the others
    pushable : (behind : List ℤ) → Pushable n work k (take (n + 1) (out ++ behind))
    pushable behind = rw (lent behind) (record {
      clocks = p.clocks;
      long = long;
      room = p.room;
      near = mixed_near n g h out _ _ p.long_g p.long_h mixes p.near_g p.near_h p.of_l p.of_r;
    })

    -- then the two vectors, weighted, stand there
    grown : (behind after : List ℤ) (c : ℕ) → Pushed n work k (take (n + 1) (out ++ behind)) after → c ≡ k + 1
        → Grown n work k (mixed_of n (number l) (map number g) (number r) (map number h) ∷ []) c after
    grown behind after c q e = subst (λ (v : Vector). Grown n work k (v ∷ []) c after)
        (mixed_words n g h out _ _ p.long_g p.long_h mixes) (grown_one n work k out after c (rw (lent behind) at q) e)

pub push-requires : goal.push-requires
push-requires c = pushable c.requires c.ranges.l c.ranges.r c.copy_from_slice.ensures.after _ c.mix.ensures _

pub returns : goal.returns
returns c =
    grown c.requires c.ranges.l c.ranges.r c.copy_from_slice.ensures.after _ c.mix.ensures _ _ _
    c.push.ensures.pushed c.push.ensures.count
