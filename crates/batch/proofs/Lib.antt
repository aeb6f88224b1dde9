pub mod ServeCodeLaws
