-- The terms, energies and limits that C hands over number by number. Assumes nothing.
use Rattle.std.specs.Prelude.{ℕ, ℤ}
use Rattle.terms.specs.declared.Terms.{Terms}
use Rattle.capability.specs.declared.Energies.{Energies}
use Rattle.capability.specs.declared.Limits.{Limits}

-- both directions, and the power limits in kW
abbrev pub terms_of : ℕ → ℕ → ℕ → ℕ → ℕ → ℕ → ℤ → ℤ → Terms
terms_of lowDC lowDM lowDR highDC highDM highDR exportLimit importLimit =
    record {
      low = record { dc = lowDC; dm = lowDM; dr = lowDR };
      high = record { dc = highDC; dm = highDM; dr = highDR };
      export_limit = exportLimit;
      import_limit = importLimit;
    }

abbrev pub energies_of : ℕ → ℕ → Energies
energies_of offer bid = record { offer = offer; bid = bid }

-- maximum and stable import limits, stable and maximum export limits, operating level
abbrev pub limits_of : ℤ → ℤ → ℤ → ℤ → ℤ → Limits
limits_of mil sil sel mel ol = record { mil = mil; sil = sil; sel = sel; mel = mel; ol = ol }
