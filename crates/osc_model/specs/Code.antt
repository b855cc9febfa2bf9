-- Codes and methods (RFC 7252 sections 3 and 12.1).
use Rattle.std.specs.Prelude.{◌≡◌, ℕ, Bool, ◌+◌, ◌*◌, ◌/◌, ◌%◌, ◌==◌, if◌then◌else◌, List, ◌++◌, Option, Some, None, codes, decimal, refl}
use Rattle.osc_model.specs.declared.code.Code.{Code}
use Rattle.osc_model.specs.declared.code.Method.{Method}
use Rattle.osc_model.specs.declared.code.Method.TheVariants.{Get, Post, Put, Delete}

-- `code 4 12` is 4.12: the class in three bits, the detail in five
abbrev pub code : ℕ → ℕ → Code
code class detail = record { 0 = 32 * class + detail }

-- class, a dot and two digits of detail (RFC 7252 section 3)
abbrev pub code_text : ℕ → List ℕ
code_text code = decimal (code / 32) ++ codes "." ++ decimal (code % 32 / 10) ++ decimal (code % 32 % 10)

-- 5.00 Internal Server Error (RFC 7252 section 5.9.3.1)
abbrev pub is_internal_server_error : Code → Bool
is_internal_server_error c = c.0 == 160

-- 5.03 Service Unavailable (section 5.9.3.4)
abbrev pub is_service_unavailable : Code → Bool
is_service_unavailable c = c.0 == 163

-- the detail of a method's code, whose class is 0
abbrev pub method_number : Method → ℕ
method_number Get = 1
method_number Post = 2
method_number Put = 3
method_number Delete = 4

-- the method that a request's code names
abbrev pub method_of : Code → Option Method
method_of c =
    if c.0 == 1 then Some Get
    else (if c.0 == 2 then Some Post
    else (if c.0 == 3 then Some Put
    else (if c.0 == 4 then Some Delete
    else None)))

-- the method of a number from 1 to 4
abbrev pub method_with_number : ℕ → Method
method_with_number n = if n == 1 then Get else (if n == 2 then Post else (if n == 3 then Put else Delete))

pub method_back : (m : Method) → method_with_number (method_number m) ≡ m
method_back Get = refl
method_back Post = refl
method_back Put = refl
method_back Delete = refl
