-- The bytes of a model, as the model that runs are about. Each number is asked for below its limit, in this order.
use Rattle.std.specs.Prelude.{cond, List, [], ◌∷◌, ℕ, zero, suc, ◌+◌, ◌-◌, ◌/◌, ◌%◌, ◌^◌, eqb, ℤ, get_or}
use Rattle.numbers.specs.Numbers.{Num, −∞, fin}
use Rattle.numbers.specs.Refusals.{refusal_number}
use Rattle.numbers.specs.declared.Refusal.TheVariants.{Bytes}
use Rattle.codec.specs.Number.{Got, got, refused, unfolded}
use Rattle.codec.specs.Form.{Form, done, ask, fault, ◌>>=◌, many, read_in}
use Rattle.runs.specs.Models.{Bound, clock_at_most, clock_at_least, difference_at_most, difference_at_least, half_space}
use Rattle.runs.specs.Models.{Edge, Model}

-- kinds 0 and 1: a clock, and k from 0 to 1,000,000
unfoldable pub clock_form : ℕ → (ℕ → ℕ → Bound) → Form Bound
clock_form n bound = ask n (λ x. ask 1000001 (λ k. done (bound x k)))

-- kinds 2 and 3: two clocks that differ, and k from −1,000,000 to 1,000,000, folded
unfoldable pub difference_form : ℕ → (ℕ → ℕ → ℤ → Bound) → Form Bound
difference_form n bound =
    ask n (λ x.
    ask n (λ y.
    cond (eqb x y) fault
    (ask 2000001 (λ k. done (bound x y (unfolded k))))))

-- an entry of a half-space: 0 is −∞, otherwise a folded value plus 1
unfoldable pub entry_form : Form Num
entry_form = ask 2000002 (λ v. done (cond (eqb v 0) −∞ (fin (unfolded (v - 1)))))

-- kind 4: the entries of a, b, and those of c, d
unfoldable pub half_space_form : ℕ → Form Bound
half_space_form n =
    many (n + 1) entry_form >>= λ ab.
    many (n + 1) entry_form >>= λ cd.
    done (half_space ab cd)

-- what follows each kind
abbrev pub kind_forms : ℕ → List (Form Bound)
kind_forms n =
    clock_form n clock_at_most ∷ clock_form n clock_at_least
    ∷ difference_form n difference_at_most ∷ difference_form n difference_at_least
    ∷ half_space_form n ∷ []

-- a bound over n clocks: its kind, from 0 to 4, and what follows it
unfoldable pub bound_form : ℕ → Form Bound
bound_form n = ask 5 (λ kind. get_or (kind_forms n) kind fault)

-- a list: a count from 0 to 8, and the bounds
unfoldable pub list_form : ℕ → Form (List Bound)
list_form n = ask 9 (λ count. many count (bound_form n))

-- the clocks from i on, n of them, whose bits are set
abbrev pub clocks_of : ℕ → ℕ → ℕ → List ℕ
clocks_of zero i bits = []
clocks_of (suc n) i bits =
    cond (eqb (bits % 2) 1) (i ∷ clocks_of n (i + 1) (bits / 2)) (clocks_of n (i + 1) (bits / 2))

-- an edge between l locations: source, destination, guard list, reset set
unfoldable pub edge_form : ℕ → ℕ → Form Edge
edge_form n l =
    ask l (λ s.
    ask l (λ d.
    list_form n >>= λ g.
    ask (2 ^ n) (λ r.
    done (record { source = s; destination = d; guard = g; resets = clocks_of n 0 r }))))

-- a number below m that is not 0
abbrev pub counted : ℕ → Form ℕ
counted m = ask m (λ v. cond (eqb v 0) fault (done v))

-- a model: clocks (1 to 6), locations (1 to 32), edges (0 to 64), initial location; an invariant list for each
-- location; the edges; target location and list; depth (0 to 200)
unfoldable pub model_form : Form Model
model_form =
    counted 7 >>= λ n.
    counted 33 >>= λ l.
    ask 65 (λ e.
    ask l (λ i.
    many l (list_form n) >>= λ is.
    many e (edge_form n l) >>= λ es.
    ask l (λ t.
    list_form n >>= λ g.
    ask 201 (λ d.
    done (record {
      system = record { clocks = n; initial = i; invariants = is; edges = es; target = t; goal = g };
      depth = d;
    })))))

-- ---- whole bytes
-- a value, or the number of a refusal
pub data Said (A : Type 0) : Type 0 where
  value : A → Said A
  refusal : ℕ → Said A

-- what is read must end where the bytes end: bytes after the depth are refused BYTES
abbrev pub wholly : {A : Type 0} → Got A → Said A
wholly (got a []) = value a
wholly (got a (b ∷ s)) = refusal (refusal_number Bytes)
wholly (refused e) = refusal e

-- the model of some bytes, or the refusal of their first fault
unfoldable pub plain_of : List ℕ → Said Model
plain_of s = wholly (read_in model_form s)
