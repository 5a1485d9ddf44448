-- Bounds and lists of bounds: the numbers of their kinds, and their form in bytes.
use Rattle.std.specs.Prelude.{cond, List, [], ℕ, ◌+◌, ◌-◌, ◌*◌, eqb, ℤ, pos, replicate}
use Rattle.numbers.specs.Words.{mark}
use Rattle.codec.specs.Number.{unfolded}
use Rattle.codec.specs.Form.{Form, done, ask, fault, ◌>>=◌, array}
use Rattle.bounds.specs.declared.Kind.{Kind}
use Rattle.bounds.specs.declared.Kind.TheVariants.{AtMost, AtLeast, DifferAtMost, DifferAtLeast, HalfSpace}
use Rattle.bounds.specs.declared.Bound.{Bound}
use Rattle.bounds.specs.declared.Bounds.{Bounds}

-- the number of each kind
abbrev pub kind_number : Kind → ℕ
kind_number AtMost = 0
kind_number AtLeast = 1
kind_number DifferAtMost = 2
kind_number DifferAtLeast = 3
kind_number HalfSpace = 4

-- the kind of each number below 5
abbrev pub kind_of : ℕ → Kind
kind_of v =
    cond (eqb v 0) AtMost
    (cond (eqb v 1) AtLeast
    (cond (eqb v 2) DifferAtMost
    (cond (eqb v 3) DifferAtLeast HalfSpace)))

-- how many entries a half-space over n clocks has
abbrev pub entry_count : ℕ → ℕ
entry_count n = (n + 1) * 2

-- the words of a bound that has no half-space
abbrev pub no_half : List ℤ
no_half = replicate 14 (pos 0)

-- the bound that stands where there is none, and the list that has none
abbrev pub no_bound : Bound
no_bound = record { x = 0; y = 0; k = pos 0; half = no_half; kind = AtMost }

abbrev pub no_bounds : Bounds
no_bounds = record { count = 0; items = replicate 8 no_bound }

-- an entry of a half-space: 0 is −∞, otherwise a folded value plus 1
abbrev pub entry_of : ℕ → ℤ
entry_of v = cond (eqb v 0) mark (unfolded (v - 1))

-- an entry's form
unfoldable pub entry_form : Form ℤ
entry_form = ask 2000002 (λ v. done (entry_of v))

-- kinds 0 and 1: clock and k, written plainly
unfoldable pub plain_form : ℕ → Kind → Form Bound
plain_form n kind =
    ask n (λ x.
    ask 1000001 (λ k.
    done (record { x = x; y = 0; k = pos k; half = no_half; kind = kind })))

-- kinds 2 and 3: two clocks that differ, and a folded k
unfoldable pub differ_form : ℕ → Kind → Form Bound
differ_form n kind =
    ask n (λ x.
    ask n (λ y.
    cond (eqb x y) fault
    (ask 2000001 (λ v.
    done (record { x = x; y = y; k = unfolded v; half = no_half; kind = kind })))))

-- kind 4: the entries of a, b, c, d
unfoldable pub half_form : ℕ → Form Bound
half_form n =
    array 14 (pos 0) (entry_count n) entry_form >>= λ h.
    done (record { x = 0; y = 0; k = pos 0; half = h; kind = HalfSpace })

-- what follows a kind
abbrev pub kind_form : ℕ → Kind → Form Bound
kind_form n AtMost = plain_form n AtMost
kind_form n AtLeast = plain_form n AtLeast
kind_form n DifferAtMost = differ_form n DifferAtMost
kind_form n DifferAtLeast = differ_form n DifferAtLeast
kind_form n HalfSpace = half_form n

-- a bound over n clocks: its kind, and what the kind asks for
unfoldable pub bound_form : ℕ → Form Bound
bound_form n = ask 5 (λ v. kind_form n (kind_of v))

-- the bounds of a list
abbrev pub items_form : ℕ → ℕ → Form (List Bound)
items_form n count = array 8 no_bound count (bound_form n)

-- a list: a count from 0 to 8, and the bounds
unfoldable pub bounds_form : ℕ → Form Bounds
bounds_form n =
    ask 9 (λ count.
    items_form n count >>= λ items.
    done (record { count = count; items = items }))

-- what stands past an array's end, for the checker: it is never read
abbrev pub past_bound : Bound
past_bound = record { x = 0; y = 0; k = pos 0; half = []; kind = AtMost }
