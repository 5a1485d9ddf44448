-- How many bytes bounds and lists of bounds take at most.
use Prim.Native.Nat.{ℕ, ◌≤◌}
use native.Mathlib.Omega.{arith}
use lib.Dec.{eqb}
use lib.IntN.{pos}
use Rattle.codec.proofs.FormSize.{
  Takes,
  gives,
  Any,
  takes_ask,
  takes_either,
  most_bytes,
  most_one,
  takes_more,
  takes_then,
  takes_array,
}
use Rattle.bounds.specs.declared.Kind.{Kind}
use Rattle.bounds.specs.declared.Kind.TheVariants.{AtMost, AtLeast, DifferAtMost, DifferAtLeast, HalfSpace}
use Rattle.bounds.specs.Bounds.{
  kind_of,
  entry_count,
  no_bound,
  entry_form,
  plain_form,
  differ_form,
  half_form,
  kind_form,
  bound_form,
  bounds_form,
}

module _ (n : ℕ) (small : n ≤ 6) where
  takes_plain : (kind : Kind) → Takes Any 2 42 (plain_form n kind)
  unfolding plain_form most_bytes
  takes_plain kind =
      takes_ask 42 n 3 (omega (arith, most_one n (omega arith))) (omega arith)
      (λ x l. takes_ask 3 1000001 0 (omega arith) (omega arith) (λ k h. gives tt))

  takes_differ : (kind : Kind) → Takes Any 2 42 (differ_form n kind)
  unfolding differ_form most_bytes
  takes_differ kind =
      takes_ask 42 n 4 (omega (arith, most_one n (omega arith))) (omega arith)
      (λ x l.
      takes_ask 4 n 3 (omega (arith, most_one n (omega arith))) (omega arith)
      (λ y h. takes_either (eqb x y) (takes_ask 3 2000001 0 (omega arith) (omega arith) (λ k j. gives tt))))

  takes_entry : Takes Any 2 3 entry_form
  unfolding entry_form most_bytes
  takes_entry = takes_ask 3 2000002 0 (omega arith) (omega arith) (λ v l. gives tt)

  takes_half : Takes Any 2 42 (half_form n)
  unfolding half_form
  takes_half =
      takes_more (omega arith)
      (takes_then {k = _} 0 (omega arith) (takes_array 14 (pos 0) (entry_count n) takes_entry) (λ h q. gives tt))

  takes_kind : (kind : Kind) → Takes Any 2 42 (kind_form n kind)
  takes_kind AtMost = takes_plain AtMost
  takes_kind AtLeast = takes_plain AtLeast
  takes_kind DifferAtMost = takes_differ DifferAtMost
  takes_kind DifferAtLeast = takes_differ DifferAtLeast
  takes_kind HalfSpace = takes_half

  takes_bound : Takes Any 2 43 (bound_form n)
  unfolding bound_form most_bytes
  takes_bound = takes_ask 43 5 42 (omega arith) (omega arith) (λ v l. takes_kind (kind_of v))

  -- a list takes at most 345 bytes
  pub takes_bounds : Takes Any 2 345 (bounds_form n)
  unfolding bounds_form most_bytes
  takes_bounds =
      takes_ask 345 9 344 (omega arith) (omega arith)
      (λ count l.
      takes_more (omega arith)
      (takes_then {k = _} 0 (omega arith) (takes_array 8 no_bound count takes_bound) (λ items q. gives tt)))
