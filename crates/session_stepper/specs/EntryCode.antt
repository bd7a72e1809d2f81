-- how an entry is told apart from another
use Rattle.std.specs.Prelude.{refl}
use Rattle.std.specs.Coded.{Coded, code_by, coded×, coded_list, coded_ℕ}
use Rattle.transcripts.specs.Transcript.{Said}

abbrev pub coded_said : Coded Said
coded_said = code_by _ (coded× coded_ℕ (coded× coded_ℕ (coded_list coded_ℕ))) (λ (e : Said). (e.session, (e.line, e.text))) (λ p. record { session = p.0; line = p.1.0; text = p.1.1 }) (λ _. refl)
