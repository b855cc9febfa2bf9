-- What a served request tells, whether or not what opened is a request.
use Rattle.std.proofs.Common.{◌≡◌, ℕ, refl, List, Option, None, Some}
use Rattle.osc_model.specs.declared.reply.Reply.{Reply}
use Rattle.osc_model.specs.declared.request.Request.{Request}
use Rattle.osc_device.specs.{Holder, served_as}

pub by_of : (by : Holder) (number : ℕ) (request : Option Request) (reply : Reply) (token : Option (List ℕ)) → (served_as by number request reply token).by ≡ by
by_of by number (Some request) reply token = refl
by_of by number None reply token = refl

pub number_of : (by : Holder) (number : ℕ) (request : Option Request) (reply : Reply) (token : Option (List ℕ)) → (served_as by number request reply token).number ≡ number
number_of by number (Some request) reply token = refl
number_of by number None reply token = refl

pub reply_of : (by : Holder) (number : ℕ) (request : Option Request) (reply : Reply) (token : Option (List ℕ)) → (served_as by number request reply token).reply ≡ reply
reply_of by number (Some request) reply token = refl
reply_of by number None reply token = refl

pub token_of : (by : Holder) (number : ℕ) (request : Option Request) (reply : Reply) (token : Option (List ℕ)) → (served_as by number request reply token).token ≡ token
token_of by number (Some request) reply token = refl
token_of by number None reply token = refl
