-- What a scope says of a request.
use Rattle.std.specs.Prelude.{ℕ, if◌then◌else◌, List, Option, Some, None}
use Rattle.osc_model.specs.{method_of, allows, names}
use Rattle.osc_model.specs.Scope.{Scope as Permissions}
use Rattle.osc_model.specs.declared.code.Code.{Code}
use Rattle.osc_scope.specs.declared.verdict.Verdict.{Verdict}
use Rattle.osc_scope.specs.declared.verdict.Verdict.TheVariants.{Granted, NoMethod, NoPath}

abbrev pub verdict_of : Permissions → Option (List ℕ) → Code → Verdict
verdict_of scope None c = NoPath
verdict_of scope (Some path) c =
    if allows scope path (method_of c) then Granted
    else (if names scope path then NoMethod
    else NoPath)
