-- Demand 1 of the other calls that read, `reader::read_flat`, `survey::survey` and `survey::locate`; and demand 2 of the first: with its zone records laid into a list it is reading. Assumes nothing.
use Rattle.layout.specs.Replies.{refuses}
use Prim.Native.Nat.{ℕ}
use mathlib.Core.Path.{◌≡◌, sym, ap, ◌∙◌}
use mathlib.Core.List.{List}
use lib.ListN.{length, replicate, length-replicate}
use contract.Lifetimes.{Lfts}
use denote.Triple.Entry.{Args, Res}
use denote.Triple.Clauses.{AtExit}
use Rattle.facts.specs.Only.{Only}
use Rattle.facts.specs.OnlyLeft.{OnlyLeft}
use Rattle.mesh.specs.declared.Zone.{Zone}
use Rattle.layout.specs.declared.Refusal.{Refusal}
use Rattle.layout.specs.Rows.{Lent, no_zone}
use Rattle.layout.specs.Replies.{Points}
use Rattle.layout.specs.Read.{Result, read_of}
use Rattle.layout.proofs.Refusals.{refusal_points}
use Rattle.layout.proofs.Shown.{shown_only}
use Rattle.filling.specs.Found.{Tables, Core, Told, told, core_of}
use Rattle.filling.proofs.Through.{tables_in, with_zones}
use Rattle.filling.proofs.Only.{read_flat_only}
use Rattle.filling.proofs.Zoned.{flat_is_read}
use Rattle.filling.specs.contracts.read_flat as flat
use Rattle.filling.proofs.read_flat.Reads as flats
use Rattle.survey.proofs.Only.{survey_only, locate_only}
use Rattle.survey.proofs.locate.Reads as locates
use Rattle.survey.proofs.survey.Reads as surveys

abbrev with_list : Tables → List Zone → Lent
with_list t zs = record { mantissas = t.mantissas; exponents = t.exponents; faces = t.faces; cells = t.cells; zones = zs }

told_reads : (s : List ℕ) (n : ℕ) (t : Tables) (c : Core) → told c ≡ told (core_of s n t) → (zs : List Zone) → length zs ≡ n → with_zones c zs ≡ read_of s (with_list t zs)
told_reads s n t c e =
    let p = shown_only c.found.reply (core_of s n t).found.reply (ap (λ (y : Told). y.shown) e) in
    let z = ap (λ (y : Told). y.zones) e in
    let f = ap (λ (y : Told). y.flat) e in
    let h = ap (λ (y : Told). y.held) e in
    flat_is_read s n t c (λ i. record { found = record { reply = p i; zones = z i; flat = f i }; held = h i })

told_refused : (s : List ℕ) (n : ℕ) (t : Tables) (c : Core) → told c ≡ told (core_of s n t) → (w : Refusal) (k o : ℕ) → c.found.reply ≡ refuses w k o → Points s w k o × (c.held ≡ t)
told_refused s n t c e w k o q =
    let zs = replicate n no_zone in
    let z = told_reads s n t c e zs (length-replicate n no_zone) in
    let h = refusal_points s (with_list t zs) w k o (sym (ap (λ (y : Result). y.reply) z) ∙ q) in
    (h.0, ap (λ (y : Result). tables_in y.held) z ∙ ap tables_in h.1)

-- ---- the calls
abbrev flat_takes : (κ : Lfts 5) → Args flat.signature κ → Tables
flat_takes κ a = record { mantissas = a.1.0.now; exponents = a.1.1.0.now; faces = a.1.1.1.0.now; cells = a.1.1.1.1.0.now }

abbrev flat_leaves : (κ : Lfts 5) → AtExit flat.ended κ → Tables
flat_leaves κ x = record { mantissas = x.1.0.now; exponents = x.1.1.0.now; faces = x.1.1.1.0.now; cells = x.1.1.1.1.0.now }

pub flat_only : OnlyLeft flat_leaves flats.Post
flat_only = read_flat_only

module _ (κ : Lfts 5) (a : Args flat.signature κ) (r : Res flat.signature κ) (x : AtExit flat.ended κ) (p : flats.Post κ a r x) where
  pub flat_refused : (w : Refusal) (k o : ℕ) → r.reply ≡ refuses w k o → Points a.0.now w k o × (flat_leaves κ x ≡ flat_takes κ a)
  flat_refused = told_refused a.0.now a.1.1.1.1.1.0 (flat_takes κ a) (record { found = r; held = flat_leaves κ x }) p

  pub flat_reads : (zs : List Zone) → length zs ≡ a.1.1.1.1.1.0 → with_zones (record { found = r; held = flat_leaves κ x }) zs ≡ read_of a.0.now (with_list (flat_takes κ a) zs)
  flat_reads = told_reads a.0.now a.1.1.1.1.1.0 (flat_takes κ a) (record { found = r; held = flat_leaves κ x }) p

pub surveyed_only : Only surveys.Post
surveyed_only = survey_only

pub located_only : Only locates.Post
located_only = locate_only
