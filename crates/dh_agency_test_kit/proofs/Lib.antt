mod Ready
