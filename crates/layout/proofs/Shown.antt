-- The paper's numbers and values tell every two answers apart. Assumes nothing.
use Rattle.layout.specs.Replies.{Reply, accepts, refuses}
use Rattle.std.specs.Prelude.{Ok, Err}
use Prim.Native.Nat.{ℕ, ◌-◌}
use native.Mathlib.Omega.{arith}
use mathlib.Core.Path.{◌≡◌, refl, sym, ◌∙◌, ap}
use mathlib.Core.List.{List, [], ◌∷◌}
use lib.ListN.{get_or}
use Rattle.layout.specs.declared.Refusal.{Refusal}
use Rattle.layout.specs.Replies.{number_of, Shown, shown}
use Rattle.layout.specs.Read.{Result, Outcome, outcome}
use Rattle.layout.proofs.Refusals.{number_of_within}

abbrev refusals : List Refusal
refusals =
    Refusal.TooLong ∷ Refusal.Grammar ∷ Refusal.Number ∷ Refusal.Binary ∷ Refusal.Undeclared ∷ Refusal.Range ∷ Refusal.TableRoom ∷ Refusal.Overlap ∷ Refusal.Type ∷ Refusal.Dimension
    ∷ Refusal.ZoneRoom ∷ Refusal.Depth ∷ Refusal.Missing ∷ Refusal.Untiled ∷ []

abbrev named : ℕ → Refusal
named n = get_or refusals (n - 1) Refusal.TooLong

named_is : (w : Refusal) → named (number_of w) ≡ w
named_is Refusal.TooLong = refl
named_is Refusal.Grammar = refl
named_is Refusal.Number = refl
named_is Refusal.Binary = refl
named_is Refusal.Undeclared = refl
named_is Refusal.Range = refl
named_is Refusal.TableRoom = refl
named_is Refusal.Overlap = refl
named_is Refusal.Type = refl
named_is Refusal.Dimension = refl
named_is Refusal.ZoneRoom = refl
named_is Refusal.Depth = refl
named_is Refusal.Missing = refl
named_is Refusal.Untiled = refl

number_of_only_lem : (v w : Refusal) → number_of v ≡ number_of w → v ≡ w
number_of_only_lem v w e = sym (named_is v) ∙ ap named e ∙ named_is w

pub shown_only : (a b : Reply) → shown a ≡ shown b → a ≡ b
shown_only (Ok a) (Ok b) e =
    let p = ap (λ (y : Shown). y.dimension) e in
    let q = ap (λ (y : Shown). y.nodes) e in
    let r = ap (λ (y : Shown). y.faces) e in
    let s = ap (λ (y : Shown). y.cells) e in
    let t = ap (λ (y : Shown). y.zones) e in
    λ i. accepts (p i) (q i) (r i) (s i) (t i)
shown_only (Ok a) (Err b) e = absurd (let p : 0 ≡ number_of b.why = ap (λ (y : Shown). y.number) e in omega (arith, (number_of_within b.why).0))
shown_only (Err a) (Ok b) e = absurd (let p : number_of a.why ≡ 0 = ap (λ (y : Shown). y.number) e in omega (arith, (number_of_within a.why).0))
shown_only (Err a) (Err b) e =
    let p = number_of_only_lem a.why b.why (ap (λ (y : Shown). y.number) e) in
    let q = ap (λ (y : Shown). y.section) e in
    let r = ap (λ (y : Shown). y.offset) e in
    λ i. refuses (p i) (q i) (r i)

pub outcome_only : (a b : Result) → outcome a ≡ outcome b → a ≡ b
outcome_only a b e =
    let p = shown_only a.reply b.reply (ap (λ (y : Outcome). y.shown) e) in
    let q = ap (λ (y : Outcome). y.held) e in
    λ i. record { reply = p i; held = q i }
