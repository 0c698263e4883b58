-- Any two verdicts that a contract admits are one: verdicts of the code that read the same are the same.
use Rattle.std.specs.Prelude.{◌≡◌, Bool, ℕ, Option, Result, Ok, Err}
use Rattle.std.proofs.Common.{refl, sym, ◌∙◌, ap}
use Rattle.lifecycle.specs.declared.ReapError as reap-error
use Rattle.lifecycle.specs.declared.ReapError.TheVariants as reap-error-of
use Rattle.lifecycle.specs.declared.ForceError as force-error
use Rattle.lifecycle.specs.declared.ForceError.TheVariants as force-error-of
use Rattle.lifecycle.specs.declared.Forced as forced
use Rattle.lifecycle.specs.declared.Forced.TheVariants as forced-of
use Rattle.lifecycle.specs.declared.CancelVerdict as cancel-verdict
use Rattle.lifecycle.specs.declared.CancelVerdict.TheVariants as cancel-verdict-of
use Rattle.lifecycle.specs.Verdicts.{reap_of, force_of, cancel_of, reap_reason, force_reason, reap_verdict, forced_verdict, force_verdict, cancel_verdict}

same-reap_reason : (a b : reap-error.ReapError) → reap_reason a ≡ reap_reason b → a ≡ b
same-reap_reason reap-error-of.Idle reap-error-of.Idle e = cc
same-reap_reason reap-error-of.Idle reap-error-of.BadId e = cc
same-reap_reason reap-error-of.Idle reap-error-of.NotBlocked e = cc
same-reap_reason reap-error-of.BadId reap-error-of.Idle e = cc
same-reap_reason reap-error-of.BadId reap-error-of.BadId e = cc
same-reap_reason reap-error-of.BadId reap-error-of.NotBlocked e = cc
same-reap_reason reap-error-of.NotBlocked reap-error-of.Idle e = cc
same-reap_reason reap-error-of.NotBlocked reap-error-of.BadId e = cc
same-reap_reason reap-error-of.NotBlocked reap-error-of.NotBlocked e = cc

same-force_reason : (a b : force-error.ForceError) → force_reason a ≡ force_reason b → a ≡ b
same-force_reason force-error-of.Idle force-error-of.Idle e = cc
same-force_reason force-error-of.Idle force-error-of.BadId e = cc
same-force_reason force-error-of.Idle force-error-of.Empty e = cc
same-force_reason force-error-of.BadId force-error-of.Idle e = cc
same-force_reason force-error-of.BadId force-error-of.BadId e = cc
same-force_reason force-error-of.BadId force-error-of.Empty e = cc
same-force_reason force-error-of.Empty force-error-of.Idle e = cc
same-force_reason force-error-of.Empty force-error-of.BadId e = cc
same-force_reason force-error-of.Empty force-error-of.Empty e = cc

pub same-reap : (a b : Result (Unit {0}) reap-error.ReapError) → reap_verdict a ≡ reap_verdict b → a ≡ b
same-reap (Ok x) (Ok y) e = refl
same-reap (Ok x) (Err y) e = cc
same-reap (Err x) (Ok y) e = cc
same-reap (Err x) (Err y) e = ap Err (same-reap_reason x y cc)

same-forced_verdict : (a b : forced.Forced) → forced_verdict a ≡ forced_verdict b → a ≡ b
same-forced_verdict forced-of.FlagAndCancel forced-of.FlagAndCancel e = cc
same-forced_verdict forced-of.FlagAndCancel forced-of.FlagAndNudge e = cc
same-forced_verdict forced-of.FlagAndNudge forced-of.FlagAndCancel e = cc
same-forced_verdict forced-of.FlagAndNudge forced-of.FlagAndNudge e = cc

pub same-force : (a b : Result forced.Forced force-error.ForceError) → force_verdict a ≡ force_verdict b → a ≡ b
same-force (Ok x) (Ok y) e = ap Ok (same-forced_verdict x y e)
same-force (Ok forced-of.FlagAndCancel) (Err y) e = cc
same-force (Ok forced-of.FlagAndNudge) (Err y) e = cc
same-force (Err x) (Ok forced-of.FlagAndCancel) e = cc
same-force (Err x) (Ok forced-of.FlagAndNudge) e = cc
same-force (Err x) (Err y) e = ap Err (same-force_reason x y cc)

pub same-cancel : (a b : cancel-verdict.CancelVerdict) → cancel_verdict a ≡ cancel_verdict b → a ≡ b
same-cancel cancel-verdict-of.MarkAndWake cancel-verdict-of.MarkAndWake e = cc
same-cancel cancel-verdict-of.MarkAndWake cancel-verdict-of.Refuse e = cc
same-cancel cancel-verdict-of.Refuse cancel-verdict-of.MarkAndWake e = cc
same-cancel cancel-verdict-of.Refuse cancel-verdict-of.Refuse e = cc

-- THE THREE CALLS

module _ (idle : Bool) (s : Option ℕ) where
  pub reap-once : (a b : Result (Unit {0}) reap-error.ReapError) → reap_verdict a ≡ reap_of idle s → reap_verdict b ≡ reap_of idle s → a ≡ b
  reap-once a b x y = same-reap a b (x ∙ sym y)

  pub force-once : (a b : Result forced.Forced force-error.ForceError) → force_verdict a ≡ force_of idle s → force_verdict b ≡ force_of idle s → a ≡ b
  force-once a b x y = same-force a b (x ∙ sym y)

pub cancel-once : (s : Option ℕ) (a b : cancel-verdict.CancelVerdict) → cancel_verdict a ≡ cancel_of s → cancel_verdict b ≡ cancel_of s → a ≡ b
cancel-once s a b x y = same-cancel a b (x ∙ sym y)
