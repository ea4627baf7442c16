pub mod ProductLaws
pub mod JoinLaws
