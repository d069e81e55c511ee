-- An array by default holds zeros. Assumes nothing.
use mathlib.Core.Path.{◌≡◌, sym, ◌∙◌}
use mathlib.Core.List.{List}
use Prim.Native.Nat.{ℕ}
use native.Mathlib.Omega.{arith}
use lib.ListN.{replicate}
use Rattle.std.specs.Array.{AllOfLen}
use Rattle.std.proofs.lemmas.List.{ext_get_or, get_or-replicate, length-replicate}

pub zeros : {A : Type 0} {zero : A} {xs : List A} {n : ℕ} → AllOfLen (λ x. x ≡ zero) xs n → xs ≡ replicate n zero
zeros {A} {zero} {xs} {n} all =
    ext_get_or zero xs (replicate n zero) (all.long ∙ sym (length-replicate n zero))
    (λ i l. all.at i zero (omega (arith, all.long)) ∙ sym (get_or-replicate n i zero zero (omega (arith, all.long))))
